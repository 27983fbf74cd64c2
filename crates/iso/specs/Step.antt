-- What an event does to one ISO 15765 channel, and a run of one channel alone with its clock, so that stories of one channel can be told without
-- the device. Every event of such a run is one that reaches the channel. Assumes nothing.
use Rattle.std.specs.Prelude.{ℕ, List, [], ◌∷◌}
use Rattle.machine.specs.Channel.{Answer, says}
use Rattle.machine.specs.Step.{Event, connect, call, frame, advance, close, own_answer, clock_after}
use Rattle.iso.specs.Iso.{Iso, shut, IsoOutcome, on_iso_frame, on_iso_advance, on_iso_connect, on_iso_call, iso_noted, iso_noted_in_use}

-- what an event does to a channel that it touches, at the clock `now`, and what that channel says where it is the speaker. Here alone a channel
-- notes a call's code; frames, advances and closes give it none
unfoldable pub iso_step : List ℕ → ℕ → Iso → Event → IsoOutcome
iso_step rates now c (connect l p f r) = iso_noted_in_use (on_iso_connect rates c l p f r)
iso_step rates now c (call k x) = iso_noted (on_iso_call rates now c x)
iso_step rates now c (frame l w n b) = (on_iso_frame now c w n b, says 0x00 0 [])
iso_step rates now c (advance t) = (on_iso_advance t c, says 0x00 0 [])
iso_step rates now c close = (shut, says 0x00 0 [])

-- ---- one channel alone
pub record Alone : Type 0 where
  pub clock : ℕ
  pub channel : Iso

-- the channel answers connects and calls; frames, advances and closes have answers of their own
unfoldable pub iso_answer : List ℕ → Alone → Event → Answer
iso_answer rates a (connect l p f r) = (iso_step rates a.clock a.channel (connect l p f r)).1
iso_answer rates a (call k x) = (iso_step rates a.clock a.channel (call k x)).1
iso_answer rates a (frame l w n b) = own_answer rates (frame l w n b)
iso_answer rates a (advance t) = own_answer rates (advance t)
iso_answer rates a close = own_answer rates close

unfoldable pub iso_after : List ℕ → Alone → Event → Alone
iso_after rates a e = record { clock = clock_after a.clock e; channel = (iso_step rates a.clock a.channel e).0 }

-- the channel and its clock after the events, and the answer to each
unfoldable pub iso_run : List ℕ → Alone → List Event → Alone
iso_run rates a [] = a
iso_run rates a (e ∷ es) = iso_run rates (iso_after rates a e) es

unfoldable pub iso_answers : List ℕ → Alone → List Event → List Answer
iso_answers rates a [] = []
iso_answers rates a (e ∷ es) = iso_answer rates a e ∷ iso_answers rates (iso_after rates a e) es
