-- `filters::put_filter` meets its contract: what it stores are the parts of the filter. Assumes nothing.
use native.Mathlib.Omega.{arith}
use mathlib.Core.Option.{some}
use Rattle.machine.specs.Message.{size_of}
use Rattle.machine.specs.Channel.{filter_of}
use Rattle.filters.proofs.Steps.{parts_are}
use Rattle.filters.proofs.put_filter.Goals as goal

pub row-mask_row-requires : goal.row-mask_row-requires
unfolding size_of
row-mask_row-requires c = let k = c.requires.2 in omega (arith, k.small, k.mask_long, c.word_at-size.ensures.0)

pub row-pattern_row-requires : goal.row-pattern_row-requires
unfolding size_of
row-pattern_row-requires c = let k = c.requires.2 in omega (arith, k.small, k.pattern_long, c.word_at-size.ensures.0)

pub overflow_cast-size-3 : goal.overflow_cast-size-3
unfolding size_of
overflow_cast-size-3 c =
    omega (arith, c.requires.2.small, c.word_at-size.ensures.0)

pub returns : goal.returns
returns c =
    let a = c.args in
    λ flags.
    c.put_place.ensures flags (some (filter_of a.kind a.mask.now a.pattern.now))
    (parts_are a.kind a.mask.now a.pattern.now c.requires.2 c.word_at-size.result c.word_at.result c.row-mask_row.result c.row-pattern_row.result
    c.word_at-size.ensures.0 c.word_at.ensures.0 c.row-mask_row.ensures c.row-pattern_row.ensures)
