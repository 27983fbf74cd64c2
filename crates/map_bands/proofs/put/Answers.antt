-- `map_bands::put` meets its contract. The invariant: the first l bytes are put in, the others as they were. Assumes nothing.
use mathlib.Core.Path.{refl, ◌∙◌}
use native.Mathlib.Omega.{arith}
use lib.ListN.{length-set}
use borrow.Author.Rules.{rules}
use Rattle.map_bands.specs.Bands.{or_bytes}
use Rattle.map_bands.proofs.Spread.{partly_done, or_long, or_more}
use Rattle.map_bands.proofs.put.Goals as goal

pub loop-l-init : goal.loop-l-init
loop-l-init c = (omega arith, refl, refl)

pub loop-l-preserved : goal.loop-l-preserved
loop-l-preserved c =
    let l = c.loop-l in
    let a = c.args in
    let k = c.requires.0 in
    (omega arith, length-set l.d l.l _ ∙ l.invariant.1, or_more a.d.now a.band.now c.requires.0 l.l l.d (search rules) l.invariant.2)

pub returns : goal.returns
returns c =
    let l = c.loop-l in
    let a = c.args in
    let k = c.requires.0 in
    l.invariant.2 ∙ partly_done (or_bytes a.d.now a.band.now) a.d.now (or_long a.d.now a.band.now c.requires.0) l.l (omega arith)

pub shape_of-d : goal.shape_of-d
shape_of-d c = c.loop-l.invariant.1
