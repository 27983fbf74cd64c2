-- `talk_starting::may_start` meets its contract: as it is defined. Assumes nothing.
use mathlib.Core.Path.{ap, ap₂}
use Prim.Native.Nat.{ℕ}
use mathlib.Core.Bool.{Bool, ◌&&◌}
use lib.Dec.{eqb}
use Rattle.talk_head.specs.declared.Head.{Head}
use Rattle.talk_starting.specs.Starting.{may_start}
use Rattle.talk_starting.proofs.may_start.Goals as goal

-- src/lib.rt:33:1
pub returns : goal.returns
unfolding may_start
returns c =
    let id = c.args.id in
    ap₂ (λ (x : ℕ) (y : Bool). eqb x 0 && y) (ap (λ (h : Head). h.kind) c.head_in-h.ensures)
    (ap₂ (λ (x : Bool) (y : ℕ). x && eqb id y) c.same-alike.ensures c.word_at-flow.ensures.0)
