-- One conversation of an ISO 15765 channel, by request P3 and its readings: a flow-control filter with the transfer on it. What it does with a frame from
-- the bus, as time passes, when a frame is taken and when one was sent. Assumes nothing.
use Rattle.std.specs.Prelude.{ℕ, zero, suc, ◌+◌, ◌*◌, ◌/◌, ◌%◌, ◌-◌, min, Bool, true, false, not, ◌&&◌, ◌||◌, List, [], ◌∷◌, ◌++◌, length, get_or, take, drop, eqb, leb, ltb, if◌then◌else◌}
use Rattle.std.specs.Bool.{beq}
use Rattle.std.proofs.Math.Option.{Option, none, some}
use Rattle.codec.specs.Plain.{within}
use Rattle.machine.specs.Message.{bit, width_flag, id_bytes, id_of, Rec, received}
use Rattle.iso.specs.Limits.{id_size, most_payload, in_single, least_segmented, in_first, in_next, second, longest_gap}

-- ---- one conversation
-- a reception: the length that its first frame told (8 to 508), the payload so far, the microseconds of its second, and whether its go-on still
-- waits to be taken
pub record Reception : Type 0 where
  pub size : ℕ
  pub bytes : List ℕ
  pub run : ℕ
  pub go_on : Bool

-- where a transmission is: its first frame flies; a flow frame is awaited, with the microseconds of its second; a consecutive frame flies; the
-- next may be taken `wait` microseconds from now. `left` frames are left in the block (0 no limit), `gap` is STmin in microseconds
pub data Stage : Type 0 where
  opens : Stage
  awaits : (run : ℕ) → Stage
  flies : (left gap : ℕ) → Stage
  sends : (left gap wait : ℕ) → Stage

-- the payload (8 to 508 bytes), how many bytes of it were taken (6, 13, ..), and where it is
pub record Transmission : Type 0 where
  pub payload : List ℕ
  pub taken : ℕ
  pub stage : Stage

-- what a conversation does: one transfer at a time, in one direction. It `refuses` while an overflow waits to be taken
pub data Transfer : Type 0 where
  idle : Transfer
  refuses : Transfer
  receives : Reception → Transfer
  transmits : Transmission → Transfer

-- a flow-control filter with its conversation: we hear the identifier `pattern` and send with `flow`
pub record Talk : Type 0 where
  pub wide : Bool
  pub pattern : ℕ
  pub flow : ℕ
  pub transfer : Transfer

-- ---- the frames of ISO 15765-2
-- the number of the consecutive frame after n bytes (6, 13, ..): 1, 2, .. 15, 0, 1, ..
unfoldable pub number_after : ℕ → ℕ
number_after n = (n + 1) / in_next % 16

-- a frame to send
unfoldable pub framed : Bool → ℕ → List ℕ → Rec
framed wide id bytes = record { rx = 0; tx = width_flag wide; time = 0; bytes = id_bytes id ++ bytes }

unfoldable pub first_frame : Talk → List ℕ → Rec
first_frame c p = framed c.wide c.flow ((0x10 + length p / 256) ∷ length p % 256 ∷ take in_first p)

unfoldable pub next_frame : Talk → Transmission → Rec
next_frame c t = framed c.wide c.flow ((0x20 + number_after t.taken) ∷ take in_next (drop t.taken t.payload))

-- flow status 0 is go-on, 2 overflow; block size 0 and STmin 0
unfoldable pub flow_frame : Talk → ℕ → Rec
flow_frame c status = framed c.wide c.flow ((0x30 + status) ∷ 0 ∷ 0 ∷ [])

-- STmin: milliseconds, 100 to 900 µs, and every other value counts as the longest
unfoldable pub gap_of : ℕ → ℕ
gap_of v = if leb v 0x7F then 1000 * v else if within 0xF1 0xF9 v then 100 * (v - 0xF0) else longest_gap

-- ---- a frame is heard: what becomes of the transfer, and the records that it tells
pub record Heard : Type 0 where
  pub transfer : Transfer
  pub records : List Rec

unfoldable pub becomes : Transfer → List Rec → Heard
becomes x rs = record { transfer = x; records = rs }

-- RxStart, and a message
unfoldable pub rx_start : ℕ → Talk → List Rec
rx_start now c = received now (width_flag c.wide + 2) (id_bytes c.pattern) ∷ []

unfoldable pub arrived : ℕ → Talk → List ℕ → List Rec
arrived now c payload = received now (width_flag c.wide) (id_bytes c.pattern ++ payload) ∷ []

-- a reception ends; an overflow still waits
unfoldable pub ended : Transfer → Transfer
ended idle = idle
ended refuses = refuses
ended (receives r) = idle
ended (transmits t) = transmits t

-- the low half of the first byte: a single frame's length, a first frame's highest digit, a sequence number, a flow status
unfoldable pub low : List ℕ → ℕ
low b = get_or b 0 0 % 16

unfoldable pub transmitting : Transfer → Bool
transmitting idle = false
transmitting refuses = false
transmitting (receives r) = false
transmitting (transmits t) = true

unfoldable pub on_single : ℕ → Talk → List ℕ → Heard
on_single now c b =
    if within 1 in_single (low b) && ltb (low b) (length b)
    then becomes (ended c.transfer) (arrived now c (take (low b) (drop 1 b)))
    else becomes c.transfer []

-- with pattern equal to flow no first frame is received; one that is too long is answered by overflow
unfoldable pub on_first : ℕ → Talk → List ℕ → Heard
on_first now c b =
    let size : ℕ = low b * 256 + get_or b 1 0 in
    if eqb c.pattern c.flow || ltb (length b) 8 || ltb size least_segmented then becomes c.transfer []
    else if leb size most_payload
    then becomes (receives (record { size = size; bytes = take in_first (drop 2 b); run = 0; go_on = true })) (rx_start now c)
    else becomes refuses []

-- it must bring 7 bytes, or all that is missing; then its number decides
unfoldable pub on_next : ℕ → Talk → Reception → List ℕ → Heard
on_next now c r b =
    let missing : ℕ = r.size - length r.bytes in
    if leb (length b) (min in_next missing) then becomes (receives r) []
    else if not (eqb (low b) (number_after (length r.bytes))) then becomes idle []
    else if ltb in_next missing
    then becomes (receives (record { size = r.size; bytes = r.bytes ++ take in_next (drop 1 b); run = 0; go_on = r.go_on })) []
    else becomes idle (arrived now c (r.bytes ++ take missing (drop 1 b)))

unfoldable pub on_consecutive : ℕ → Talk → Transfer → List ℕ → Heard
on_consecutive now c idle b = becomes idle []
on_consecutive now c refuses b = becomes refuses []
on_consecutive now c (receives r) b = on_next now c r b
on_consecutive now c (transmits t) b = becomes (transmits t) []

unfoldable pub staged : Transmission → Stage → Transfer
staged t s = transmits (record { payload = t.payload; taken = t.taken; stage = s })

-- a flow frame that is awaited: go on, wait, or an end
unfoldable pub on_flow : Transmission → Stage → List ℕ → Transfer
on_flow t opens b = transmits t
on_flow t (flies left gap) b = transmits t
on_flow t (sends left gap wait) b = transmits t
on_flow t (awaits run) b =
    if ltb (length b) 3 then transmits t
    else if eqb (low b) 0 then staged t (sends (get_or b 1 0) (gap_of (get_or b 2 0)) 0)
    else if eqb (low b) 1 then staged t (awaits 0)
    else idle

unfoldable pub on_flow_of : Transfer → List ℕ → Transfer
on_flow_of idle b = idle
on_flow_of refuses b = refuses
on_flow_of (receives r) b = receives r
on_flow_of (transmits t) b = on_flow t t.stage b

-- by the high half of the first byte; a conversation that transmits hears flow frames alone
unfoldable pub listening : ℕ → Talk → List ℕ → Heard
listening now c b =
    let kind : ℕ = get_or b 0 0 / 16 in
    if eqb kind 3 then becomes (on_flow_of c.transfer b) []
    else if transmitting c.transfer then becomes c.transfer []
    else if eqb kind 0 then on_single now c b
    else if eqb kind 1 then on_first now c b
    else if eqb kind 2 then on_consecutive now c c.transfer b
    else becomes c.transfer []

-- only a frame with a filter's pattern and width is anything to it
unfoldable pub heard : ℕ → Bool → ℕ → List ℕ → Talk → Heard
heard now wide id b c =
    if beq wide c.wide && eqb id c.pattern then listening now c b else becomes c.transfer []

-- ---- time: one second without the awaited frame drops a transfer
unfoldable pub later_stage : ℕ → Transmission → Stage → Transfer
later_stage t x opens = transmits x
later_stage t x (awaits run) = if leb second (run + t) then idle else staged x (awaits (run + t))
later_stage t x (flies left gap) = transmits x
later_stage t x (sends left gap wait) = staged x (sends left gap (wait - t))

unfoldable pub later_transfer : ℕ → Transfer → Transfer
later_transfer t idle = idle
later_transfer t refuses = refuses
later_transfer t (receives r) =
    if leb second (r.run + t) then idle
    else receives (record { size = r.size; bytes = r.bytes; run = r.run + t; go_on = r.go_on })
later_transfer t (transmits x) = later_stage t x x.stage

-- ---- what it gives to be sent
-- what a frame in flight belongs to: nothing any more, a single-frame message, the transfer of the conversation at a place
pub data Owner : Type 0 where
  nobody : Owner
  message : Owner
  transfer_at : (place : ℕ) → Owner

-- a frame for the flight, what it belongs to, what becomes of the conversation that gives it
pub record Given : Type 0 where
  pub frame : Rec
  pub owner : Owner
  pub transfer : Transfer

unfoldable pub gives : Rec → Owner → Transfer → Option Given
gives r w x = some (record { frame = r; owner = w; transfer = x })

-- a flow frame that waits
unfoldable pub answer_of : ℕ → Talk → Transfer → Option Given
answer_of k c idle = none
answer_of k c refuses = gives (flow_frame c 2) nobody idle
answer_of k c (receives r) =
    if r.go_on
    then gives (flow_frame c 0) (transfer_at k) (receives (record { size = r.size; bytes = r.bytes; run = r.run; go_on = false }))
    else none
answer_of k c (transmits t) = none

-- the next frame of a transmission, if STmin is over
unfoldable pub next_of : ℕ → Talk → Transmission → Stage → Option Given
next_of k c t opens = none
next_of k c t (awaits run) = none
next_of k c t (flies left gap) = none
next_of k c t (sends left gap wait) =
    if eqb wait 0
    then gives (next_frame c t) (transfer_at k) (transmits (record { payload = t.payload; taken = t.taken + in_next; stage = flies left gap }))
    else none

unfoldable pub segment_of : ℕ → Talk → Transfer → Option Given
segment_of k c idle = none
segment_of k c refuses = none
segment_of k c (receives r) = none
segment_of k c (transmits t) = next_of k c t t.stage

-- a filter matches a message by its flow identifier and its width
unfoldable pub carries : Bool → ℕ → Talk → Bool
carries wide id c = beq wide c.wide && eqb id c.flow

-- the first frame of a message, where its conversation is idle
unfoldable pub start_of : Rec → ℕ → Talk → Transfer → Option Given
start_of m k c refuses = none
start_of m k c (receives r) = none
start_of m k c (transmits t) = none
start_of m k c idle =
    if carries (bit 0x100 m.tx) (id_of m.bytes) c
    then gives (first_frame c (drop id_size m.bytes)) (transfer_at k) (transmits (record { payload = drop id_size m.bytes; taken = in_first; stage = opens }))
    else none

-- ---- what was sent: what becomes of the transfer, and the message that is whole
-- the transfer has a frame in flight: a go-on that was taken and whose reception runs, or a frame of a transmission
unfoldable pub airborne : Transfer → Bool
airborne idle = false
airborne refuses = false
airborne (receives r) = not r.go_on
airborne (transmits t) = aloft t.stage
  where
    aloft : Stage → Bool
    aloft opens = true
    aloft (awaits run) = false
    aloft (flies left gap) = true
    aloft (sends left gap wait) = false

unfoldable pub sent_stage : Transmission → Stage → Transfer
sent_stage t opens = staged t (awaits 0)
sent_stage t (awaits run) = transmits t
sent_stage t (sends left gap wait) = transmits t
sent_stage t (flies left gap) =
    if leb (length t.payload) t.taken then idle
    else if eqb left 1 then staged t (awaits 0)
    else staged t (sends (left - 1) gap gap)

unfoldable pub sent_of : Transfer → Transfer
sent_of idle = idle
sent_of refuses = refuses
sent_of (receives r) = receives (record { size = r.size; bytes = r.bytes; run = 0; go_on = r.go_on })
sent_of (transmits t) = sent_stage t t.stage

-- the message of a transmission, once all of it was taken
unfoldable pub whole_of : Talk → Transmission → Stage → List Rec
whole_of c t opens = []
whole_of c t (awaits run) = []
whole_of c t (sends left gap wait) = []
whole_of c t (flies left gap) = if leb (length t.payload) t.taken then framed c.wide c.flow t.payload ∷ [] else []

unfoldable pub done_of : Talk → Transfer → List Rec
done_of c idle = []
done_of c refuses = []
done_of c (receives r) = []
done_of c (transmits t) = whole_of c t t.stage
