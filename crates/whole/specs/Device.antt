-- The whole box: a clock, four raw CAN channels and four ISO 15765 channels, and the one place where an event finds its channels. Assumes nothing.
use Rattle.std.specs.Prelude.{ℕ, zero, suc, ◌+◌, ◌-◌, Bool, true, false, not, ◌&&◌, ◌||◌, List, [], ◌∷◌, get_or, replicate, eqb, ltb, if◌then◌else◌}
use Rattle.std.proofs.Math.Option.{Option, none, some}
use Rattle.codec.specs.Plain.{within}
use Rattle.machine.specs.Limits.{lines, can_protocol}
use Rattle.machine.specs.Channel.{Chan, closed, Call, raw_only, Answer, says, connect_code}
use Rattle.machine.specs.Step as raw_step
use Rattle.machine.specs.Step.{Event, connect, call, frame, advance, close, chan_step, clock_after}
use Rattle.iso.specs.Limits.{iso_protocol}
use Rattle.iso.specs.Iso.{Iso, shut, iso_connect_code}
use Rattle.iso.specs.Step.{iso_step}

-- four raw and four ISO 15765 channels
abbrev pub channels : ℕ
channels = lines + lines

pub record Device : Type 0 where
  pub clock : ℕ
  pub chans : List Chan
  pub isos : List Iso

-- nothing open, clock 0
unfoldable pub power_on : Device
power_on = record { clock = 0; chans = replicate lines closed; isos = replicate lines shut }

-- the two channels of a line
unfoldable pub chan_at : ℕ → Device → Chan
chan_at line d = get_or d.chans line closed

unfoldable pub iso_at : ℕ → Device → Iso
iso_at line d = get_or d.isos line shut

-- ---- channels by place: place i has channel number i + 1. Places 0 to 3 are the raw channels of lines 0 to 3, places 4 to 7 the ISO 15765 ones
pub data Any : Type 0 where
  raw : Chan → Any
  iso : Iso → Any

unfoldable pub any_at : ℕ → Device → Any
any_at i d = if ltb i lines then raw (chan_at i d) else iso (iso_at (i - lines) d)

unfoldable pub line_of : ℕ → ℕ
line_of i = if ltb i lines then i else i - lines

unfoldable pub protocol_at : ℕ → ℕ
protocol_at i = if ltb i lines then can_protocol else iso_protocol

-- ---- THE DISPATCHER. Which channels an event touches, by their places, and whose answer it gets
-- the places that a call can name: one that takes the number of a raw channel stops at the fourth
unfoldable pub nameable : Call → ℕ → Bool
nameable x i = not (raw_only x) || ltb i lines

unfoldable pub touches : Event → ℕ → Bool
touches (connect l p f r) i = eqb l (line_of i) && eqb p (protocol_at i)
touches (call k x) i = eqb k (i + 1) && nameable x i
touches (frame l w n b) i = eqb l (line_of i)
touches (advance t) i = true
touches close i = true

-- the place of the channel that a connect names; none where it names none
unfoldable pub connected : ℕ → ℕ → Option ℕ
connected l p = if ltb l lines then (if eqb p can_protocol then some l else if eqb p iso_protocol then some (l + lines) else none) else none

-- the place of the channel that a call names by this number
unfoldable pub numbered : Call → ℕ → Option ℕ
numbered x k = if within 1 channels k && nameable x (k - 1) then some (k - 1) else none

-- the place of the channel that answers; none where the answer is no channel's
unfoldable pub speaker : Event → Option ℕ
speaker (connect l p f r) = connected l p
speaker (call k x) = numbered x k
speaker (frame l w n b) = none
speaker (advance t) = none
speaker close = none

-- an answer that is no channel's
unfoldable pub own_answer : List ℕ → Event → Answer
own_answer rates (connect l p f r) =
    says (if eqb p iso_protocol then iso_connect_code rates p f r ((true, 0x13) ∷ []) else connect_code rates p f r ((true, 0x13) ∷ [])) 0 []
own_answer rates (call k x) = raw_step.own_answer rates (call k x)
own_answer rates (frame l w n b) = raw_step.own_answer rates (frame l w n b)
own_answer rates (advance t) = raw_step.own_answer rates (advance t)
own_answer rates close = raw_step.own_answer rates close

-- what an event does to a channel of either kind that it touches, and what that channel says where it is the speaker
unfoldable pub any_step : List ℕ → ℕ → Any → Event → Any × Answer
any_step rates now (raw c) e = (raw (chan_step rates now c e).0, (chan_step rates now c e).1)
any_step rates now (iso c) e = (iso (iso_step rates now c e).0, (iso_step rates now c e).1)

-- ---- the step: each channel that the event touches takes its own step, the others stay
unfoldable pub moved : {C : Type 0} → (ℕ → Bool) → (C → C) → ℕ → List C → List C
moved touched f i [] = []
moved touched f i (c ∷ cs) = (if touched i then f c else c) ∷ moved touched f (suc i) cs

unfoldable pub after : List ℕ → Device → Event → Device
after rates d e =
    record {
      clock = clock_after d.clock e;
      chans = moved (touches e) (λ c. (chan_step rates d.clock c e).0) 0 d.chans;
      isos = moved (touches e) (λ c. (iso_step rates d.clock c e).0) lines d.isos;
    }

unfoldable pub answer_by : Option ℕ → List ℕ → Device → Event → Answer
answer_by none rates d e = own_answer rates e
answer_by (some i) rates d e = (any_step rates d.clock (any_at i d) e).1

unfoldable pub answer : List ℕ → Device → Event → Answer
answer rates d e = answer_by (speaker e) rates d e

unfoldable pub step : List ℕ → Device → Event → Device × Answer
step rates d e = (after rates d e, answer rates d e)

-- ---- runs
-- the device after the events
unfoldable pub run : List ℕ → Device → List Event → Device
run rates d [] = d
run rates d (e ∷ es) = run rates (step rates d e).0 es

-- the answer to each event, in order
unfoldable pub answers : List ℕ → Device → List Event → List Answer
answers rates d [] = []
answers rates d (e ∷ es) = (step rates d e).1 ∷ answers rates (step rates d e).0 es
