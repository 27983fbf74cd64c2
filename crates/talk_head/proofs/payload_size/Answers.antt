-- `talk_head::payload_size` meets its contract: the count is the payload's. Assumes nothing.
use mathlib.Core.Path.{sym, ◌∙◌, subst}
use Prim.Native.Nat.{ℕ, ◌≤◌}
use Rattle.iso.specs.Limits.{most_payload}
use Rattle.talk_head.proofs.Bytes.{payload_short, payload_count}
use Rattle.talk_head.proofs.payload_size.Goals as goal

pub returns : goal.returns
returns c =
    let t = c.args.t.now in
    let size = c.word_at.ensures.0 ∙ payload_count t c.requires.0 c.requires.1 in
    (size, subst (λ (k : ℕ). k ≤ most_payload) (sym size) (payload_short t c.requires.0 c.requires.1))
