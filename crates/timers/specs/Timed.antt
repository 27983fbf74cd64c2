-- What time does to the periodics of a channel, and to nothing else of it. Assumes nothing.
use Rattle.std.specs.Prelude.{ℕ, map}
use Rattle.machine.specs.Channel.{Chan, closed, opened, with_sending, later_slot}

unfoldable pub periodics_on : ℕ → Chan → Chan
periodics_on us closed = closed
periodics_on us (opened o) = with_sending o (map (later_slot us) o.sending.periodics) o.sending.written o.sending.flight
