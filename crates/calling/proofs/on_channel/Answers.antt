-- `calling::on_channel` meets its contract. Assumes nothing.
use mathlib.Core.Path.{◌≡◌, refl}
use native.Mathlib.Omega.{arith}
use lib.ListN.{length}
use Rattle.iso_layout.specs.Sizes.{iso_region_size}
use Rattle.memory.proofs.Seats.{iso_ends, iso_lent}
use Rattle.seats.proofs.Laws.{raw_seat, iso_seat}
use Rattle.calling.proofs.Law.{iso_done}
use Rattle.calling.proofs.on_channel.Goals as goal

pub slice_bounds-iso-end : goal.slice_bounds-iso-end
slice_bounds-iso-end g c = iso_ends _ c.requires.memory _ _ (iso_seat _ _ _ c.in-Some-Iso.field-0-is c.in-Some-Iso.ensures)

pub iso-answer-requires : goal.iso-answer-requires
iso-answer-requires g c = c.requires.iso _ (iso_lent _ c.requires.memory _ _ (iso_seat _ _ _ c.in-Some-Iso.field-0-is c.in-Some-Iso.ensures))

pub returns-in-Some-Raw : goal.returns-in-Some-Raw
returns-in-Some-Raw g c rates x value does both none lends = c.on_raw_region.ensures _ rates x value (raw_seat _ _ _ c.in-Some-Raw.field-0-is c.in-Some-Raw.ensures) does none lends

pub returns-in-Some-Iso : goal.returns-in-Some-Iso
returns-in-Some-Iso g c rates x value does both none lends =
    let long : length c.iso-answer.new.arg2 ≡ iso_region_size = omega arith in
    iso_done _ c.requires.memory _ _ value rates x _ c.iso-answer.result c.iso-answer.new.arg2 _ (iso_seat _ _ _ c.in-Some-Iso.field-0-is c.in-Some-Iso.ensures) both (record { shown = _; shows = refl; left = _; met = c.iso-answer.ensures; leaves = refl }) long _ c.code_of.ensures.0 c.note.ensures
