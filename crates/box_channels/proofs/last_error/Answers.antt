-- `box_channels::last_error` meets its contract. Assumes nothing.
use mathlib.Core.Path.{refl}
use Rattle.machine.specs.Channel.{lent, last_error}
use Rattle.layout.specs.Promise as raw_promise
use Rattle.memory.specs.Promise.{noted_in}
use Rattle.memory.proofs.Seats.{raw_ends, raw_lent_law, raw_looked, iso_ends, iso_lent, iso_looked}
use Rattle.seats.proofs.Laws.{raw_seat, iso_seat}
use Rattle.box_channels.proofs.last_error.Goals as goal

pub slice_bounds-last_in-end : goal.slice_bounds-last_in-end
slice_bounds-last_in-end c = raw_ends _ c.requires _ _ (raw_seat _ _ _ c.in-Some-Raw.field-0-is c.in-Some-Raw.ensures)

pub last_in-requires : goal.last_in-requires
last_in-requires c = raw_lent_law _ c.requires _ _ (raw_seat _ _ _ c.in-Some-Raw.field-0-is c.in-Some-Raw.ensures)

pub slice_bounds-last_in-end-in-Some-Iso : goal.slice_bounds-last_in-end-in-Some-Iso
slice_bounds-last_in-end-in-Some-Iso c = iso_ends _ c.requires _ _ (iso_seat _ _ _ c.in-Some-Iso.field-0-is c.in-Some-Iso.ensures)

pub last_in-requires-in-Some-Iso : goal.last_in-requires-in-Some-Iso
last_in-requires-in-Some-Iso c = iso_lent _ c.requires _ _ (iso_seat _ _ _ c.in-Some-Iso.field-0-is c.in-Some-Iso.ensures)

pub returns-in-None : goal.returns-in-None
unfolding lent
returns-in-None c rates = c.in-None.ensures rates last_error

-- the code is 0x00, so that nothing is noted
pub returns-in-Some-Raw : goal.returns-in-Some-Raw
unfolding raw_promise.noted_in
returns-in-Some-Raw c rates =
    raw_looked _ c.requires _ _ (raw_seat _ _ _ c.in-Some-Raw.field-0-is c.in-Some-Raw.ensures) rates _ refl _ _ _ (c.last_in.ensures rates _) _ refl

pub returns-in-Some-Iso : goal.returns-in-Some-Iso
unfolding noted_in
returns-in-Some-Iso c rates =
    iso_looked _ c.requires _ _ (iso_seat _ _ _ c.in-Some-Iso.field-0-is c.in-Some-Iso.ensures) rates _ _ _ _ (c.last_in-in-Some-Iso.ensures rates _) _ refl refl
