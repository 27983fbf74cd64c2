-- `map_bands::eight` meets its contract. Assumes nothing.
use Rattle.map_bands.proofs.Bits.{eight_is}
use Rattle.map_bands.proofs.eight.Goals as goal

pub returns : goal.returns
returns c =
    let a = c.args in
    eight_is a.m a.p _ _ _ _ _ _ _ _ c.mark.ensures.0 c.mark-2.ensures.0 c.mark-3.ensures.0 c.mark-4.ensures.0
    c.mark-5.ensures.0 c.mark-6.ensures.0 c.mark-7.ensures.0 c.mark-8.ensures.0
