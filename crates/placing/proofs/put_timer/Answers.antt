-- `placing::put_timer` meets its contract. Assumes nothing.
use mathlib.Core.Path.{◌≡◌, ◌∙◌}
use Prim.Native.Nat.{ℕ, ◌+◌, ◌*◌, ◌-◌}
use native.Mathlib.Omega.{arith}
use lib.ListN.{set, length-set}
use borrow.Rule.Slice.PartMut.{put_mid}
use Rattle.placing.specs.Placed.{timed}
use Rattle.layout.specs.Sizes.{phases_in, pending_in, number_size}
use Rattle.placing.proofs.put_timer.Goals as goal

pub shape_of-part : goal.shape_of-part
shape_of-part c = simp length-set (c.part-2-1.given.1 ∙ c.part-1.given.1)

pub returns : goal.returns
unfolding timed
returns c =
    let i = c.args.i in
    let four : (a : ℕ) → a + 4 - a ≡ 4 = λ a. omega arith in
    λ j.
    set (put_mid (phases_in + i * number_size) (four (phases_in + i * number_size) j) (put_mid (i * number_size) (four (i * number_size) j) c.args.part.now (c.put_word.ensures j)) (c.put_word-2.ensures j))
    (pending_in + i) c.args.pending
