-- `box_traffic::write` meets its contract. Assumes nothing.
use Rattle.machine.specs.Channel.{write, lent}
use mathlib.Core.Path.{◌≡◌, refl, sym, ◌∙◌}
use native.Mathlib.Omega.{arith}
use lib.Dec.{lit<}
use lib.ListN.{length}
use Rattle.layout.specs.Sizes.{region_size}
use Rattle.iso_layout.specs.Sizes.{iso_region_size}
use Rattle.memory.proofs.Seats.{raw_ends, raw_speaker, raw_called, raw_muted, iso_ends, iso_lent, iso_called}
use Rattle.seats.proofs.Laws.{raw_seat, iso_seat}
use Rattle.noting.proofs.Laws.{by_code}
use Rattle.box_traffic.proofs.write.Goals as goal

-- a listener
pub listens-requires : goal.listens-requires
listens-requires c = raw_ends _ c.requires _ _ (raw_seat _ _ _ c.in-Some-Raw.field-0-is c.in-Some-Raw.ensures)

pub note-requires : goal.note-requires
note-requires c = (raw_ends _ c.requires _ _ (raw_seat _ _ _ c.in-Some-Raw.field-0-is c.in-Some-Raw.ensures), lit< tt)

pub returns-then-listens : goal.returns-then-listens
unfolding lent
returns-then-listens c rates = raw_muted _ c.requires _ _ (raw_seat _ _ _ c.in-Some-Raw.field-0-is c.in-Some-Raw.ensures) (sym c.listens.ensures ∙ c.if-listens.true) rates _ refl _ c.note.ensures

-- any other raw channel
pub slice_bounds-write-end : goal.slice_bounds-write-end
slice_bounds-write-end c = raw_ends _ c.requires _ _ (raw_seat _ _ _ c.in-Some-Raw.field-0-is c.in-Some-Raw.ensures)

pub write-moved-requires : goal.write-moved-requires
write-moved-requires c = raw_speaker _ c.requires _ _ (raw_seat _ _ _ c.in-Some-Raw.field-0-is c.in-Some-Raw.ensures) (sym c.listens.ensures ∙ c.if-listens.false)

pub returns-else-listens : goal.returns-else-listens
returns-else-listens c rates =
    let long : length c.write-moved.new.r ≡ region_size = omega arith in
    by_code (sym c.code_of.ensures.0) (raw_called _ c.requires _ _ (raw_seat _ _ _ c.in-Some-Raw.field-0-is c.in-Some-Raw.ensures) rates _ (sym c.listens.ensures ∙ c.if-listens.false) _ _ _ _ _ long (by_code c.code_of.ensures.0 (c.write-moved.ensures rates _)) c.note-in-Some-Raw.ensures)

-- an ISO 15765 channel
pub slice_bounds-write-end-in-Some-Iso : goal.slice_bounds-write-end-in-Some-Iso
slice_bounds-write-end-in-Some-Iso c = iso_ends _ c.requires _ _ (iso_seat _ _ _ c.in-Some-Iso.field-0-is c.in-Some-Iso.ensures)

pub write-moved-requires-in-Some-Iso : goal.write-moved-requires-in-Some-Iso
write-moved-requires-in-Some-Iso c = iso_lent _ c.requires _ _ (iso_seat _ _ _ c.in-Some-Iso.field-0-is c.in-Some-Iso.ensures)

pub returns-in-Some-Iso : goal.returns-in-Some-Iso
returns-in-Some-Iso c rates =
    let long : length c.write-moved-in-Some-Iso.new.r ≡ iso_region_size = omega arith in
    by_code (sym c.code_of-in-Some-Iso.ensures.0) (iso_called _ c.requires _ _ (iso_seat _ _ _ c.in-Some-Iso.field-0-is c.in-Some-Iso.ensures) rates _ _ _ _ _ _ long (by_code c.code_of-in-Some-Iso.ensures.0 (c.write-moved-in-Some-Iso.ensures rates _)) c.note-in-Some-Iso.ensures refl)

-- none
pub returns-in-None : goal.returns-in-None
unfolding lent
returns-in-None c rates = c.in-None.ensures rates (write c.args.n c.args.buffer.now)
