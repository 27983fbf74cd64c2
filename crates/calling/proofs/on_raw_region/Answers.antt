-- `calling::on_raw_region` meets its contract: by the law of calls at a seat. Assumes nothing.
use mathlib.Core.Path.{◌≡◌, refl, sym, ◌∙◌}
use native.Mathlib.Omega.{arith}
use lib.Dec.{lit<}
use lib.ListN.{length}
use Rattle.layout.specs.Sizes.{region_size}
use Rattle.memory.proofs.Seats.{raw_ends}
use Rattle.calling.proofs.Law.{served, muted, raw_done}
use Rattle.calling.proofs.on_raw_region.Goals as goal

pub refuses-requires : goal.refuses-requires
refuses-requires g c = raw_ends _ c.requires.memory _ _ c.requires.seat.1

pub note-requires : goal.note-requires
note-requires g c = (raw_ends _ c.requires.memory _ _ c.requires.seat.1, lit< tt)

pub returns-then-refuses : goal.returns-then-refuses
returns-then-refuses g c k rates x value seat does none lends = muted _ c.requires.memory k _ value rates x seat _ does (sym c.refuses.ensures ∙ c.if-refuses.true) _ (none _) lends _ _ refl c.note.ensures

pub slice_bounds-does-end : goal.slice_bounds-does-end
slice_bounds-does-end g c = raw_ends _ c.requires.memory _ _ c.requires.seat.1

pub does-answer-requires : goal.does-answer-requires
does-answer-requires g c = c.requires.does _ (served _ c.requires.memory _ _ c.requires.seat.1 _ (sym c.refuses.ensures ∙ c.if-refuses.false))

pub returns : goal.returns
returns g c k rates x value seat does none lends =
    let long : length c.does-answer.new.arg2 ≡ region_size = omega arith in
    raw_done _ c.requires.memory k _ value rates x _ c.does-answer.result c.does-answer.new.arg2 _ seat _ does (sym c.refuses.ensures ∙ c.if-refuses.false)
    (record { shown = _; shows = refl; left = _; met = c.does-answer.ensures; leaves = refl }) long _ c.code_of.ensures.0 c.note-2.ensures
