-- `box_traffic::read` meets its contract. Assumes nothing.
use Rattle.machine.specs.Channel.{read, lent}
use mathlib.Core.Path.{◌≡◌, refl, sym}
use native.Mathlib.Omega.{arith}
use lib.ListN.{length}
use Rattle.layout.specs.Sizes.{region_size}
use Rattle.iso_layout.specs.Sizes.{iso_region_size}
use Rattle.memory.proofs.Seats.{raw_ends, raw_lent_law, raw_called, iso_ends, iso_lent, iso_called}
use Rattle.seats.proofs.Laws.{raw_seat, iso_seat}
use Rattle.noting.proofs.Laws.{by_code}
use Rattle.box_traffic.proofs.read.Goals as goal

-- any other raw channel
pub slice_bounds-read_in-end : goal.slice_bounds-read_in-end
slice_bounds-read_in-end c = raw_ends _ c.requires _ _ (raw_seat _ _ _ c.in-Some-Raw.field-0-is c.in-Some-Raw.ensures)

pub read_in-moved-requires : goal.read_in-moved-requires
read_in-moved-requires c = raw_lent_law _ c.requires _ _ (raw_seat _ _ _ c.in-Some-Raw.field-0-is c.in-Some-Raw.ensures)

pub returns-in-Some-Raw : goal.returns-in-Some-Raw
returns-in-Some-Raw c rates =
    let long : length c.read_in-moved.new.r ≡ region_size = omega arith in
    by_code (sym c.code_of.ensures.0) (raw_called _ c.requires _ _ (raw_seat _ _ _ c.in-Some-Raw.field-0-is c.in-Some-Raw.ensures) rates _ refl _ _ _ _ _ long (by_code c.code_of.ensures.0 (c.read_in-moved.ensures rates _)) c.note.ensures)

-- an ISO 15765 channel
pub slice_bounds-read_in-end-in-Some-Iso : goal.slice_bounds-read_in-end-in-Some-Iso
slice_bounds-read_in-end-in-Some-Iso c = iso_ends _ c.requires _ _ (iso_seat _ _ _ c.in-Some-Iso.field-0-is c.in-Some-Iso.ensures)

pub read_in-moved-requires-in-Some-Iso : goal.read_in-moved-requires-in-Some-Iso
read_in-moved-requires-in-Some-Iso c = iso_lent _ c.requires _ _ (iso_seat _ _ _ c.in-Some-Iso.field-0-is c.in-Some-Iso.ensures)

pub returns-in-Some-Iso : goal.returns-in-Some-Iso
returns-in-Some-Iso c rates =
    let long : length c.read_in-moved-in-Some-Iso.new.r ≡ iso_region_size = omega arith in
    by_code (sym c.code_of-in-Some-Iso.ensures.0) (iso_called _ c.requires _ _ (iso_seat _ _ _ c.in-Some-Iso.field-0-is c.in-Some-Iso.ensures) rates _ _ _ _ _ _ long (by_code c.code_of-in-Some-Iso.ensures.0 (c.read_in-moved-in-Some-Iso.ensures rates _)) c.note-in-Some-Iso.ensures refl)

-- none
pub returns-in-None : goal.returns-in-None
unfolding lent
returns-in-None c rates = c.in-None.ensures rates (read c.args.n c.args.buffer.now)
