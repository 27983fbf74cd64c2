-- `frame_tests::frame_code` meets its contract. Assumes nothing.
use mathlib.Core.Path.{subst}
use Prim.Native.Nat.{ℕ, ◌<◌, ◌≤◌}
use Rattle.frame_tests.proofs.Laws.{bad_width, bad_id, bad_length, good_frame}
use Rattle.frame_tests.proofs.frame_code.Goals as goal

pub returns-then-wide-gt1 : goal.returns-then-wide-gt1
returns-then-wide-gt1 c =
    bad_width _ _ c.args.bytes.now c.if-wide-gt1.true

pub returns-then-id-id_limit : goal.returns-then-id-id_limit
returns-then-id-id_limit c =
    bad_id c.args.wide c.args.id c.args.bytes.now c.if-wide-gt1.false (subst (λ (n : ℕ). n < c.args.id) c.id_limit.ensures c.if-id-id_limit.true)

pub returns-then-bytes-gt-MOST_BYTES : goal.returns-then-bytes-gt-MOST_BYTES
returns-then-bytes-gt-MOST_BYTES c =
    bad_length c.args.wide c.args.id c.args.bytes.now c.if-wide-gt1.false (subst (λ (n : ℕ). c.args.id ≤ n) c.id_limit.ensures c.if-id-id_limit.false) c.if-bytes-gt-MOST_BYTES.true

pub returns : goal.returns
returns c =
    good_frame c.args.wide c.args.id c.args.bytes.now c.if-wide-gt1.false (subst (λ (n : ℕ). c.args.id ≤ n) c.id_limit.ensures c.if-id-id_limit.false) c.if-bytes-gt-MOST_BYTES.false
