-- `early_rule::all_pass` meets its contract. Assumes nothing.
use mathlib.Core.Path.{◌≡◌, refl, sym, ap₂}
use mathlib.Core.Bool.{Bool, not, ◌&&◌}
use native.Mathlib.Omega.{arith}
use borrow.Author.Rules.{rules}
use Rattle.machine.specs.Limits.{most_places}
use Rattle.early_rule.specs.Words.{free_at, able_at, some_below, all_pass}
use Rattle.early_rule.proofs.Choice.{below_next}
use Rattle.early_rule.proofs.all_pass.Goals as goal

pub loop-f-init : goal.loop-f-init
unfolding some_below
loop-f-init c = search rules

pub loop-f-preserved : goal.loop-f-preserved
unfolding free_at able_at
loop-f-preserved c =
    let l = c.loop-f in
    let a = c.args in
    (omega arith, below_next (free_at a.heads.now a.ps.now) l.f l.free _ l.invariant.1 refl, below_next (able_at a.heads.now a.ms.now a.ps.now) l.f l.able _ l.invariant.2 refl)

pub returns : goal.returns
unfolding all_pass
returns c =
    let l = c.loop-f in
    let e : l.f ≡ most_places = omega arith in
    rw (sym e) (ap₂ (λ (x y : Bool). x && not y) l.invariant.1 l.invariant.2)
