-- `iso_giving::owner_of` meets its contract: an overflow, or another frame. Assumes nothing.
use mathlib.Core.Path.{refl}
use borrow.Author.Tests.{eq-eqb, ne_eqb}
use Rattle.iso_giving.specs.Giving.{owner_of}
use Rattle.iso_giving.proofs.owner_of.Goals as goal

pub returns-then-first-eq-OVERFLOW : goal.returns-then-first-eq-OVERFLOW
unfolding owner_of
returns-then-first-eq-OVERFLOW c = rw (eq-eqb _ 0x32 c.if-first-eq-OVERFLOW.true) refl

pub returns-else-first-eq-OVERFLOW : goal.returns-else-first-eq-OVERFLOW
unfolding owner_of
returns-else-first-eq-OVERFLOW c = rw (ne_eqb _ 0x32 c.if-first-eq-OVERFLOW.false) refl
