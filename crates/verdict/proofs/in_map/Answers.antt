-- `verdict::in_map` meets its contract. Assumes nothing.
use Rattle.verdict.proofs.ByMaps.{has_bit, not_in, by_bit}
use Rattle.verdict.proofs.in_map.Goals as goal

pub returns-then-wide : goal.returns-then-wide
returns-then-wide c = not_in _ _ _ c.if-wide.true

pub bit-requires : goal.bit-requires
bit-requires c = (c.requires.0, has_bit _ _ c.if-wide.false c.requires.1)

pub returns : goal.returns
returns c = by_bit _ _ _ _ c.if-wide.false c.bit.ensures
