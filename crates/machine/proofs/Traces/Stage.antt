-- THE STAGE on which stories of raw channels are told: four of them side by side with one clock, nothing open, clock 0. What the box itself does with an
-- event is said in `whole`; here each story's event goes to the channel that it names. Assumes nothing.
use Rattle.std.specs.Prelude.{if◌then◌else◌}
use Prim.Native.Nat.{ℕ, suc, ◌+◌, ◌-◌}
use mathlib.Core.Bool.{Bool, true}
use mathlib.Core.Option.{Option, none, some}
use mathlib.Core.List.{List, [], ◌∷◌}
use lib.ListN.{get_or, replicate}
use lib.Dec.{eqb, ltb}
use Rattle.codec.specs.Plain.{within}
use Rattle.machine.specs.Limits.{lines}
use Rattle.machine.specs.Channel.{Chan, closed, Answer}
use Rattle.machine.specs.Step.{Event, connect, call, frame, advance, close, own_answer, chan_step, clock_after}

pub record Stage : Type 0 where
  pub clock : ℕ
  pub chans : List Chan

-- nothing open, clock 0
unfoldable pub power_on : Stage
power_on = record { clock = 0; chans = replicate lines closed }

-- the channel of a line; line L has channel number L + 1
unfoldable pub chan_at : ℕ → Stage → Chan
chan_at line d = get_or d.chans line closed

-- ---- which channels an event touches, by their lines, and whose answer it gets
unfoldable pub touches : Event → ℕ → Bool
touches (connect l p f r) line = eqb l line
touches (call k x) line = eqb k (line + 1)
touches (frame l w n b) line = eqb l line
touches (advance t) line = true
touches close line = true

-- the line of the channel that answers; none where the answer is no channel's
unfoldable pub speaker : Event → Option ℕ
speaker (connect l p f r) = if ltb l lines then some l else none
speaker (call k x) = if within 1 lines k then some (k - 1) else none
speaker (frame l w n b) = none
speaker (advance t) = none
speaker close = none

-- ---- the step: each channel that the event touches takes its own step, the others stay
unfoldable pub chans_after : List ℕ → ℕ → Event → ℕ → List Chan → List Chan
chans_after rates now e line [] = []
chans_after rates now e line (c ∷ cs) =
    (if touches e line then (chan_step rates now c e).0 else c) ∷ chans_after rates now e (suc line) cs

unfoldable pub after : List ℕ → Stage → Event → Stage
after rates d e = record { clock = clock_after d.clock e; chans = chans_after rates d.clock e 0 d.chans }

unfoldable pub answer_by : Option ℕ → List ℕ → Stage → Event → Answer
answer_by none rates d e = own_answer rates e
answer_by (some line) rates d e = (chan_step rates d.clock (chan_at line d) e).1

unfoldable pub answer : List ℕ → Stage → Event → Answer
answer rates d e = answer_by (speaker e) rates d e

unfoldable pub step : List ℕ → Stage → Event → Stage × Answer
step rates d e = (after rates d e, answer rates d e)

-- ---- runs
-- the stage after the events
unfoldable pub run : List ℕ → Stage → List Event → Stage
run rates d [] = d
run rates d (e ∷ es) = run rates (step rates d e).0 es

-- the answer to each event, in order
unfoldable pub answers : List ℕ → Stage → List Event → List Answer
answers rates d [] = []
answers rates d (e ∷ es) = (step rates d e).1 ∷ answers rates (step rates d e).0 es
