-- `map_bands::join` meets its contract. The invariant: the bands before h have the filter's bytes, the others are as they were. Assumes nothing.
use mathlib.Core.Path.{◌≡◌, refl, ap, ◌∙◌}
use mathlib.Core.Logic.{⊎_elim}
use mathlib.Core.List.{List}
use Prim.Native.Nat.{ℕ, ◌+◌, ◌-◌, ◌*◌, ◌<◌}
use native.Mathlib.Omega.{arith}
use lib.ListN.{length}
use borrow.Author.Rules.{rules}
use borrow.Author.Tests.{eq-eqb, ne_eqb}
use Rattle.map_bands.specs.Bands.{band_size, joined}
use Rattle.map_bands.proofs.Spread.{partly, partly_long, partly_done, goal_long, joined_band, joined_apart}
use Rattle.map_bands.proofs.join.Goals as goal

pub loop-h-init : goal.loop-h-init
loop-h-init c = (omega arith, c.requires, refl)

pub loop-h-preserved : goal.loop-h-preserved
loop-h-preserved c =
    let l = c.loop-h in
    let b = c.band_of-band in
    let a = c.args in
    let k : l.h < 8 = search rules in
    let m : List ℕ = a.map.now in
    let e : c.if-h-hm.map ≡ partly ((l.h + 1) * band_size) (joined m a.hm a.hp a.lm a.lp) m =
    ⊎_elim
    (λ w. let n : l.h * band_size + band_size - l.h * band_size ≡ band_size = omega arith in
    w.map-is ∙ joined_band m a.hm a.hp a.lm a.lp c.requires l.h k l.map b.result _ _ n l.invariant.2 b.ensures (eq-eqb _ _ w.if-h-hm.true) w.put.ensures)
    (λ w. w.map-is ∙ joined_apart m a.hm a.hp a.lm a.lp c.requires l.h k l.map l.invariant.2 (ne_eqb _ _ w.if-h-hm.false))
    c.if-h-hm.branch-raw in
    (omega arith, ap length e ∙ partly_long (joined m a.hm a.hp a.lm a.lp) m (goal_long m a.hm a.hp a.lm a.lp c.requires) ((l.h + 1) * band_size) (omega (arith, c.requires)) ∙ c.requires, e)

pub returns : goal.returns
returns c =
    let l = c.loop-h in
    let a = c.args in
    let m : List ℕ = a.map.now in
    let k = c.requires in
    l.invariant.2 ∙ partly_done (joined m a.hm a.hp a.lm a.lp) m (goal_long m a.hm a.hp a.lm a.lp c.requires) (l.h * band_size) (omega arith)
