-- `map_bands::band_byte` meets its contract. Assumes nothing.
use borrow.Author.Tests.{eq-eqb, ne_eqb}
use Rattle.map_bands.specs.Bands.{band_byte}
use Rattle.map_bands.proofs.band_byte.Goals as goal

pub returns-then-l-m : goal.returns-then-l-m
unfolding band_byte
returns-then-l-m c = rw (eq-eqb _ _ c.if-l-m.true)

pub returns : goal.returns
unfolding band_byte
returns c = rw (ne_eqb _ _ c.if-l-m.false)
