-- `box_times::advance` meets its contract. Assumes nothing.
use mathlib.Core.List.{[]}
use native.Mathlib.Omega.{arith}
use Rattle.memory.proofs.Memory.{valid_long}
use Rattle.box_times.proofs.Laws.{advance_refused, raws_lent, isos_end, isos_lent, clock_ends, clock_lent, advanced_long, advanced}
use Rattle.box_times.proofs.advance.Goals as goal

pub slice_bounds-advance_isos-end : goal.slice_bounds-advance_isos-end
slice_bounds-advance_isos-end c =
    isos_end [] _ c.requires _ c.if-us-gt-MOST_ADVANCE.false _ c.advance_raws.ensures

pub advance_isos-requires : goal.advance_isos-requires
advance_isos-requires c =
    isos_lent [] _ c.requires _ c.if-us-gt-MOST_ADVANCE.false _ c.advance_raws.ensures

pub slice_bounds-advance_clock-end : goal.slice_bounds-advance_clock-end
slice_bounds-advance_clock-end c =
    clock_ends [] _ c.requires _ c.if-us-gt-MOST_ADVANCE.false _ c.advance_raws.ensures _ c.advance_isos.ensures

pub advance_clock-requires : goal.advance_clock-requires
advance_clock-requires c =
    clock_lent [] _ c.requires _ c.if-us-gt-MOST_ADVANCE.false _ c.advance_raws.ensures _ c.advance_isos.ensures

pub shape_of-mem : goal.shape_of-mem
shape_of-mem c =
    advanced_long [] _ c.requires _ c.if-us-gt-MOST_ADVANCE.false _ c.advance_raws.ensures _ c.advance_isos.ensures _ c.advance_clock.ensures

pub returns : goal.returns
returns c rates =
    advanced rates _ c.requires _ c.if-us-gt-MOST_ADVANCE.false _ c.advance_raws.ensures _ c.advance_isos.ensures _ c.advance_clock.ensures

pub returns-then-us-gt-MOST_ADVANCE : goal.returns-then-us-gt-MOST_ADVANCE
returns-then-us-gt-MOST_ADVANCE c rates = advance_refused rates _ c.requires _ c.if-us-gt-MOST_ADVANCE.true

pub slice_bounds-advance_raws-end : goal.slice_bounds-advance_raws-end
slice_bounds-advance_raws-end c = omega (arith, valid_long _ c.requires)

pub advance_raws-requires : goal.advance_raws-requires
advance_raws-requires c = raws_lent [] _ c.requires _ c.if-us-gt-MOST_ADVANCE.false
