-- `early_rule::passing` meets its contract. Assumes nothing.
use mathlib.Core.Path.{◌≡◌}
use mathlib.Core.List.{List}
use Prim.Native.Nat.{ℕ}
use native.Mathlib.Omega.{arith}
use lib.ListN.{length-set}
use borrow.Author.Rules.{rules}
use Rattle.machine.specs.Limits.{most_places}
use Rattle.filterwalk.specs.Columns.{listed}
use Rattle.filterwalk.proofs.Listed.{listed_more, listed_done}
use Rattle.early_rule.specs.Words.{bars}
use Rattle.early_rule.proofs.Bars.{bar_mask, bar_pattern, is_passing}
use Rattle.early_rule.proofs.passing.Goals as goal

pub loop-g-init : goal.loop-g-init
unfolding listed
loop-g-init c = search rules

pub loop-g-preserved : goal.loop-g-preserved
unfolding bars
loop-g-preserved c =
    let l = c.loop-g in
    let a = c.args in
    let hs : List ℕ = a.heads.now in
    let qs : List ℕ = a.ms.now in
    let rs : List ℕ = a.ps.now in (
      omega arith,
      simp length-set (search rules),
      simp length-set (search rules),
      l.invariant.3,
      listed_more (bar_mask hs qs rs a.f) l.g l.bm c.chosen-one.result.mask (omega arith) c.chosen-one.ensures.0 l.invariant.4,
      listed_more (bar_pattern hs qs rs a.f) l.g l.bp c.chosen-one.result.pattern (omega arith) c.chosen-one.ensures.1 l.invariant.5,
    )

pub returns : goal.returns
returns c =
    let l = c.loop-g in
    let a = c.args in
    let e : l.g ≡ most_places = omega arith in
    is_passing a.heads.now a.ms.now a.ps.now a.f l.bm l.bp
    (listed_done (bar_mask a.heads.now a.ms.now a.ps.now a.f) most_places l.bm l.invariant.1 (rw e at l.invariant.4))
    (listed_done (bar_pattern a.heads.now a.ms.now a.ps.now a.f) most_places l.bp l.invariant.2 (rw e at l.invariant.5))
    c.uncovered.result c.uncovered.ensures
