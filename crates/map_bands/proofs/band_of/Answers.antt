-- `map_bands::band_of` meets its contract. The invariant: the first l bytes are made. Assumes nothing.
use mathlib.Core.Path.{◌≡◌, ap, ◌∙◌}
use Prim.Native.Nat.{ℕ, ◌/◌}
use native.Mathlib.Omega.{arith}
use lib.ListN.{length-set}
use borrow.Author.Rules.{rules}
use Rattle.map_rule.specs.Map.{counted}
use Rattle.map_bands.specs.Bands.{band_size, band_byte, band_at, band_of}
use Rattle.map_rule.proofs.Pack.{counted_more, counted_done}
use Rattle.map_bands.proofs.band_of.Goals as goal

pub loop-l-init : goal.loop-l-init
unfolding counted
loop-l-init c = search rules

pub loop-l-preserved : goal.loop-l-preserved
unfolding band_at
loop-l-preserved c =
    let l = c.loop-l in
    let e = c.eight-inner in
    let a = c.args in
    let made = c.band_byte.ensures ∙ ap (λ (inner : ℕ). band_byte (a.mask / 8) (a.pattern / 8) inner l.l) e.ensures in
    (omega arith, simp length-set (search rules), counted_more (band_at a.mask a.pattern) l.l l.out c.band_byte.result (omega arith) made l.invariant.2)

pub returns : goal.returns
unfolding band_of
returns c =
    let l = c.loop-l in
    let a = c.args in
    let e : l.l ≡ band_size = omega arith in
    counted_done (band_at a.mask a.pattern) band_size l.out l.invariant.1 (rw e at l.invariant.2)
