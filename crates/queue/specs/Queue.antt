-- The receive queue: a record more, the oldest gone. Assumes nothing.
use Rattle.std.specs.Prelude.{ℕ, false, drop}
use Rattle.machine.specs.Message.{Rec}
use Rattle.machine.specs.Channel.{Chan, closed, opened, Receiving, arrive}

-- the channel with a record arrived; a closed one as it is
unfoldable pub arrived : Rec → Chan → Chan
arrived x closed = closed
arrived x (opened o) = arrive o x

-- what is left when the m oldest records are gone; the lost mark is cleared
unfoldable pub without_oldest : ℕ → Receiving → Receiving
without_oldest m x = record { queue = drop m x.queue; lost = false }
