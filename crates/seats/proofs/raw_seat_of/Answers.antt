-- `seats::raw_seat_of` meets its contract. Assumes nothing.
use mathlib.Core.Path.{◌≡◌, subst}
use Rattle.std.proofs.Common.{rules}
use Rattle.std.specs.Prelude.{Some}
use Rattle.memory.proofs.Seats.{no_raw_channel}
use Rattle.seats.specs.Seated.{Seated}
use Rattle.seats.specs.declared.Seat.TheVariants.{Iso}
use Rattle.seats.proofs.raw_seat_of.Goals as goal

pub returns-in-Iso : goal.returns-in-Iso
returns-in-Iso c =
    let found : c.seat_of.result ≡ Some (Iso c.in-Iso.field-0) = search rules in
    no_raw_channel _ c.requires _ (subst (Seated c.args.mem.now c.args.channel) found c.seat_of.ensures).low
