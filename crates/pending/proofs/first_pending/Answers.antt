-- `pending::first_pending` meets its contract. The invariant: no place below i is pending. The measure is 10 less i. Assumes nothing.
use mathlib.Core.Path.{◌≡◌, ◌∙◌}
use native.Mathlib.Omega.{arith}
use borrow.Author.Count.{below_more}
use borrow.Author.Rules.{rules}
use Rattle.pending.proofs.Marks.{found_pending}
use Rattle.pending.proofs.first_pending.Goals as goal

pub bounds-part-i : goal.bounds-part-i
bounds-part-i c = omega (arith, c.requires.long)

pub returns-then-part-i-eq1 : goal.returns-then-part-i-eq1
returns-then-part-i-eq1 c =
    found_pending c.args.part.now c.requires c.loop-i.i (search rules)
    c.loop-i.invariant.1 (λ h. c.if-part-i-eq1.true)

pub loop-i-preserved : goal.loop-i-preserved
loop-i-preserved c = (search rules, below_more _ _ c.loop-i.invariant.1 c.if-part-i-eq1.false)

pub returns : goal.returns
returns c =
    let e : 10 ≡ c.loop-i.i = omega arith in
    λ flags. e ∙ found_pending c.args.part.now c.requires c.loop-i.i (search rules) c.loop-i.invariant.1 (λ h. absurd (omega arith)) flags
