-- `early_rule::some_passes` meets its contract. Assumes nothing.
use mathlib.Core.Path.{◌≡◌}
use mathlib.Core.Logic.{⊎_elim}
use Prim.Native.Nat.{◌<◌}
use native.Mathlib.Omega.{arith}
use borrow.Author.Rules.{rules}
use Rattle.machine.specs.Limits.{most_places}
use Rattle.early_rule.proofs.Choice.{shut_none, shut_more, shut_unable, shut_covered, wanted_fits, one_found, none_found}
use Rattle.early_rule.proofs.some_passes.Goals as goal

pub loop-f-init : goal.loop-f-init
loop-f-init c = let a = c.args in (omega arith, shut_none a.heads.now a.ms.now a.ps.now)

pub passing-requires : goal.passing-requires
passing-requires c =
    let a = c.args in
    let p = c.requires in
    (p.0, p.1, p.2, search rules, wanted_fits a.heads.now a.ms.now a.ps.now c.loop-f.f c.if-heads-f.true)

pub returns-then-passing : goal.returns-then-passing
returns-then-passing c =
    let a = c.args in
    let l = c.loop-f in
    let k : l.f < most_places = search rules in
    one_found a.heads.now a.ms.now a.ps.now l.f _ k c.if-heads-f.true c.if-passing.true c.passing.ensures

pub loop-f-preserved : goal.loop-f-preserved
loop-f-preserved c =
    let a = c.args in
    let l = c.loop-f in (
      omega arith,
      shut_more a.heads.now a.ms.now a.ps.now l.f l.invariant.1
          (⊎_elim
          (λ w. shut_covered a.heads.now a.ms.now a.ps.now l.f _ w.if-passing.false w.passing.ensures)
          (λ w. shut_unable a.heads.now a.ms.now a.ps.now l.f w.if-heads-f.false)
          c.if-heads-f.branch-raw),
    )

pub returns : goal.returns
returns c =
    let a = c.args in
    let l = c.loop-f in
    let e : l.f ≡ most_places = omega arith in
    none_found a.heads.now a.ms.now a.ps.now (λ j h. l.invariant.1 j (omega arith))
