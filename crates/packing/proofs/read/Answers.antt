-- `packing::read` meets its contract. Assumes nothing.
use Prim.Native.Nat.{◌≤◌}
use mathlib.Core.Path.{◌≡◌, sym, ap, ◌∙◌}
use native.Mathlib.Omega.{arith}
use lib.ListN.{length}
use lib.Seq.{length-take-le}
use borrow.Author.Tests.{lt-ltb}
use Rattle.std.proofs.lemmas.Result.{err_from_is_err_and}
use Rattle.telegram_types.specs.Face.{refusal}
use Rattle.telegram_record.specs.Crossing.{reading}
use Rattle.packing.proofs.Fills.{few, unread, crossed}
use borrow.Author.Rules.{rules}
use Rattle.packing.proofs.read.Goals as goal

pub returns-then-telegram-lt-RECORD : goal.returns-then-telegram-lt-RECORD
unfolding reading refusal
returns-then-telegram-lt-RECORD c = rw (lt-ltb _ 32 c.if-telegram-lt-RECORD.true)

pub returns-in_err-named : goal.returns-in_err-named
returns-in_err-named c =
    let p = err_from_is_err_and c.from_residual.result c.from_residual.ensures.1 in
    rw (p.1, p.2) (unread _ _ _ c.in_err-named.ensures (search rules))

pub overflow_cast-named : goal.overflow_cast-named
overflow_cast-named c =
    let m = c.in_ok-named.named in
    let seven : length m.payload ≡ 7 = search rules in
    let h = few _ m c.in_ok-named.ensures seven in
    omega arith

pub slice_bounds-copy-end-2 : goal.slice_bounds-copy-end-2
slice_bounds-copy-end-2 c =
    let b = c.args.telegram.now in
    let room : 32 ≤ length b = search rules in
    sym (length-take-le 32 b room)

pub copy-requires : goal.copy-requires
copy-requires c =
    let b = c.args.telegram.now in
    let room : 32 ≤ length b = search rules in
    let long : length c.pack-record.result ≡ 32 = search rules in
    length-take-le 32 b room ∙ sym long

pub returns : goal.returns
returns c =
    let b = c.args.telegram.now in
    let room : 32 ≤ length b = search rules in
    let long : length c.pack-record.result ≡ 32 = search rules in
    let same = c.copy.ensures in
    crossed _ _ b _ c.in_ok-named.ensures room (ap length same ∙ long) (same ∙ c.pack-record.ensures)
