-- The words of demands 1 and 3 over the whole box: what a refusal leaves, which events concern a channel, what a channel receives. Channels go by their
-- place: place i is channel number i + 1. Assumes nothing.
use Rattle.std.specs.Prelude.{ℕ, ◌+◌, ◌-◌, ◌<◌, ◌≡◌, Bool, true, ◌&&◌, List, [], ◌∷◌, ◌++◌, length, set, T, eqb, ltb, if◌then◌else◌}
use Rattle.std.proofs.Math.Option.{Option, none, some}
use Rattle.codec.specs.Plain.{within}
use Rattle.machine.specs.Limits.{lines}
use Rattle.machine.specs.Codes.{step_codes}
use Rattle.machine.specs.Channel.{Call, raw_only, get_parameter, set_parameter, get_list, set_list, Pairs, flat, Answer, notes, says}
use Rattle.machine.specs.Step.{Event, connect, call, frame, advance, close}
unfoldable pub use Rattle.machine.specs.Demands.{results, pair_codes, did_part, part_done, refusal}
use Rattle.iso.specs.Iso.{iso_notes}
use Rattle.whole.specs.Device.{Device, Any, raw, iso, any_at, channels, connected, step, run, answers}

-- the box has four raw channels and four ISO 15765 channels
pub record EightChannels (d : Device) : Type 0 where
  pub raws : length d.chans ≡ lines
  pub isos : length d.isos ≡ lines

-- ---- demand 1: refusals

-- every code that an event can be answered with: the scope's, and the two that join its table
unfoldable pub box_codes : List ℕ
box_codes = step_codes ++ 0x17 ∷ 0x18 ∷ []

-- every code of the table: its last is for a memory that is not valid, and no state of the box is such a memory
unfoldable pub box_table : List ℕ
box_table = box_codes ++ 0x1A ∷ []

-- A LIST THAT A PAIR ENDED: in front of that pair stand accepted ones. A set leaves and answers what those alone do, and then the set of the refused
-- pair alone
pub record SetEnded (rates : List ℕ) (d : Device) (k : ℕ) (ps : Pairs) : Type 0 where
  pub before : Pairs
  pub refused : ℕ × ℕ
  pub behind : Pairs
  pub is : ps ≡ before ++ refused ∷ behind
  pub accepted : (step rates d (call k (set_list before))).1.code ≡ 0x00
  pub leaves : step rates d (call k (set_list ps)) ≡ step rates (step rates d (call k (set_list before))).0 (call k (set_parameter refused.0 refused.1))

-- a get leaves what those alone leave, and then the get of the refused pair's parameter, whose code it gives; their values stand in the list, and
-- the refused pair and all behind it stay
pub record GetEnded (rates : List ℕ) (d : Device) (k : ℕ) (ps : Pairs) : Type 0 where
  pub before : Pairs
  pub refused : ℕ × ℕ
  pub behind : Pairs
  pub is : ps ≡ before ++ refused ∷ behind
  pub accepted : (step rates d (call k (get_list before))).1.code ≡ 0x00
  pub leaves : (step rates d (call k (get_list ps))).0 ≡ (step rates (step rates d (call k (get_list before))).0 (call k (get_parameter refused.0))).0
  pub code : (step rates d (call k (get_list ps))).1.code ≡ (step rates (step rates d (call k (get_list before))).0 (call k (get_parameter refused.0))).1.code
  pub list : (step rates d (call k (get_list ps))).1.buffer ≡ (step rates d (call k (get_list before))).1.buffer ++ flat (refused ∷ behind)

-- ---- lists as their single calls

-- single sets in a row, up to the first that is not 0x00
unfoldable pub set_singly : List ℕ → Device → ℕ → Pairs → Device × Answer
set_singly rates d k [] = (d, says 0x00 0 [])
set_singly rates d k (p ∷ ps) =
    let s : Device × Answer = step rates d (call k (set_parameter p.0 p.1)) in
    if eqb s.1.code 0x00 then set_singly rates s.0 k ps else s

-- single gets in a row, each value in its pair, up to the first that is not 0x00
unfoldable pub get_singly : List ℕ → Device → ℕ → Pairs → Device × Answer
get_singly rates d k [] = (d, says 0x00 0 [])
get_singly rates d k (p ∷ ps) =
    let s : Device × Answer = step rates d (call k (get_parameter p.0)) in
    let more : Device × Answer = get_singly rates s.0 k ps in
    if eqb s.1.code 0x00 then (more.0, says more.1.code 0 (p.0 ∷ s.1.value ∷ more.1.buffer))
    else (s.0, says s.1.code 0 (flat (p ∷ ps)))

-- the device with another channel at a place
unfoldable pub with_any : ℕ → Any → Device → Device
with_any i (raw c) d = record { clock = d.clock; chans = set d.chans i c; isos = d.isos }
with_any i (iso c) d = record { clock = d.clock; chans = d.chans; isos = set d.isos (i - lines) c }

-- a channel with a code as its last; the device, and only the last code of the channel at a place has become this one
unfoldable pub any_notes : ℕ → Any → Any
any_notes code (raw c) = raw (notes code c)
any_notes code (iso c) = iso (iso_notes code c)

unfoldable pub noted_at : ℕ → ℕ → Device → Device
noted_at i code d = with_any i (any_notes code (any_at i d)) d

unfoldable pub noted_by : Option ℕ → ℕ → Device → Device
noted_by none code d = d
noted_by (some i) code d = noted_at i code d

-- ALL THAT A REFUSAL LEAVES BEHIND: its code, as the last of the open channel that a call names (0x02 names none), or that a connect finds in use
unfoldable pub remembers : Event → ℕ → Device → Device
remembers (connect l p f r) code d = if eqb code 0x14 then noted_by (connected l p) code d else d
remembers (call k x) code d = if eqb code 0x02 then d else noted_at (k - 1) code d
remembers (frame l w n b) code d = d
remembers (advance t) code d = d
remembers close code d = d

-- ---- demand 3: what concerns a channel

-- a call names the channel of its number; one that takes the number of a raw channel names 1 to 4 alone
unfoldable pub names : Call → ℕ → Bool
names x k = if raw_only x then within 1 4 k else true

-- the event concerns the channel at place i: a call that names its number i + 1; a connect of its line and protocol, which are L and 5 for the
-- channel L + 1 up to 4, and L and 6 for the channel L + 5 from 5 on; a frame of its line; an advance; a close.
-- This is demand 3's own list, as P3 and P5 amend it. Of the machine it takes one word, `raw_only`: which calls take the number of a raw channel
unfoldable pub concerns : ℕ → Event → Bool
concerns i (connect l p f r) = if ltb i 4 then eqb l i && eqb p 5 else eqb (l + 4) i && eqb p 6
concerns i (call k x) = eqb k (i + 1) && names x k
concerns i (frame l w n b) = if ltb i 4 then eqb l i else eqb (l + 4) i
concerns i (advance t) = true
concerns i close = true

-- the events that are left when all that do not concern channel i are struck out
unfoldable pub strike : ℕ → List Event → List Event
strike i [] = []
strike i (e ∷ es) = if concerns i e then e ∷ strike i es else strike i es

-- the answers, in a run of all events, to those that concern channel i
unfoldable pub answers_of : List ℕ → ℕ → Device → List Event → List Answer
answers_of rates i d [] = []
answers_of rates i d (e ∷ es) =
    if concerns i e then (step rates d e).1 ∷ answers_of rates i (step rates d e).0 es
    else answers_of rates i (step rates d e).0 es

-- both devices show channel i the same: its state and the clock
pub record Alike (i : ℕ) (d d' : Device) : Type 0 where
  pub clock : d.clock ≡ d'.clock
  pub chan : any_at i d ≡ any_at i d'
  pub here : EightChannels d
  pub there : EightChannels d'

-- PROJECTION. Where all events run on d and the struck-out list on d', channel i receives the same answers, and it and the clock end the same
pub record Projected (rates : List ℕ) (i : ℕ) (d d' : Device) (es : List Event) : Type 0 where
  pub receives : answers_of rates i d es ≡ answers rates d' (strike i es)
  pub ends : Alike i (run rates d es) (run rates d' (strike i es))

-- none of the eight channels is concerned by both
abbrev pub Apart : Event → Event → Type 0
Apart e e' = (i : ℕ) → i < channels → T (concerns i e) → T (concerns i e') → ⊥

-- EXCHANGE. Where the neighbours e and e' change places the whole device ends the same, and each event gets the same answer
pub record Exchanged (rates : List ℕ) (d : Device) (xs : List Event) (e e' : Event) (ys : List Event) : Type 0 where
  pub device : run rates d (xs ++ e ∷ e' ∷ ys) ≡ run rates d (xs ++ e' ∷ e ∷ ys)
  pub to_e : Answer
  pub to_e' : Answer
  pub to_ys : List Answer
  pub one_way : answers rates d (xs ++ e ∷ e' ∷ ys) ≡ answers rates d xs ++ to_e ∷ to_e' ∷ to_ys
  pub other_way : answers rates d (xs ++ e' ∷ e ∷ ys) ≡ answers rates d xs ++ to_e' ∷ to_e ∷ to_ys

-- the channel number that a call or a connect names. A frame names none: it concerns both channels of its line
pub data Names : Event → ℕ → Type 0 where
  by_call : {k : ℕ} {x : Call} → T (names x k) → Names (call k x) k
  by_raw : {l f r : ℕ} → l < lines → Names (connect l 5 f r) (l + 1)
  by_iso : {l f r : ℕ} → l < lines → Names (connect l 6 f r) (l + 5)

-- two sequences leave each of the eight channels the same events, in the same order
abbrev pub SameToEach : List Event → List Event → Type 0
SameToEach es zs = (i : ℕ) → i < channels → strike i es ≡ strike i zs

-- ARRANGEMENT. Two sequences end in the same device, and each channel receives the same answers
pub record Arranged (rates : List ℕ) (d : Device) (es zs : List Event) : Type 0 where
  pub device : run rates d es ≡ run rates d zs
  pub receives : (i : ℕ) → i < channels → answers_of rates i d es ≡ answers_of rates i d zs

-- an event changes nothing, and its answer is the same on every device
pub record Ignored (rates : List ℕ) (d : Device) (e : Event) : Type 0 where
  pub device : (step rates d e).0 ≡ d
  pub reply : (d' : Device) → (step rates d e).1 ≡ (step rates d' e).1
