-- One ISO 15765 channel with its two conversations: its state, and what each call does to it, by request P3 and its readings. Nothing here can name
-- another channel. `rates` is the set of rates in force. Assumes nothing.
use Rattle.std.specs.Prelude.{ℕ, zero, suc, ◌+◌, ◌*◌, ◌/◌, ◌%◌, ◌-◌, min, Bool, true, false, not, ◌&&◌, ◌||◌, List, [], ◌∷◌, ◌++◌, map, length, get_or, set, take, drop, replicate, eqb, leb, ltb, if◌then◌else◌}
use Rattle.std.specs.Bool.{beq}
use Rattle.std.proofs.Math.Option.{Option, none, some}
use Rattle.codec.specs.Plain.{within, member, zeros}
use Rattle.codec.specs.Word.{word}
use Rattle.machine.specs.Codes.{code_of}
use Rattle.machine.specs.Limits.{most_advance}
use Rattle.iso.specs.Limits.{iso_protocol, first_iso, most_talks, most_messages, most_heard, id_size, iso_data, iso_record_size, least_message, longest_single}
pub use Rattle.iso.specs.Talk.{Reception, Stage, Transmission, Transfer, Talk, Heard, Owner, Given, opens, awaits, flies, sends, idle, refuses, receives, transmits, nobody, message, transfer_at}
unfoldable pub use Rattle.iso.specs.Talk.{number_after, framed, first_frame, next_frame, flow_frame, gap_of, becomes, rx_start, arrived, ended, low, transmitting, on_single, on_first, on_next, on_consecutive, staged, on_flow, on_flow_of, listening, heard, later_stage, later_transfer, gives, answer_of, next_of, segment_of, carries, start_of, airborne, sent_stage, sent_of, whole_of, done_of}
use Rattle.machine.specs.Message.{bit, width_flag, id_bytes, id_of, id_limit, takes, Rec, protocol_of, tx_flags_of, size_of, wide_of, data_of, clean, received}
use Rattle.machine.specs.Filter.{Slots, free, has, any_slot}
use Rattle.machine.specs.Channel.{Config, Receiving, Call, disconnect, start_filter, start_flow, stop_filter, start_periodic, stop_periodic, write, read, take_next, sent, clear, get_parameter, set_parameter, last_error, get_list, set_list, on_raw, raw_lent, Pairs, flat, lent, Answer, says, frame_code, read_code, is_flags, Wrote, unless_stopped, get_in, set_in, get_all, set_all, list_code}

-- ---- the channel
pub record Flight : Type 0 where
  pub frame : Rec
  pub owner : Owner

pub record OpenIso : Type 0 where
  pub config : Config
  pub talks : Slots Talk
  pub written : List Rec
  pub flight : Option Flight
  pub receiving : Receiving
  pub last : ℕ

pub data Iso : Type 0 where
  shut : Iso
  ready : OpenIso → Iso

abbrev pub IsoOutcome : Type 0
IsoOutcome = Iso × Answer

unfoldable pub no_talks : Slots Talk
no_talks = none ∷ none ∷ []

-- the channel with one part replaced
unfoldable pub set_talks : OpenIso → Slots Talk → OpenIso
set_talks o t = record { config = o.config; talks = t; written = o.written; flight = o.flight; receiving = o.receiving; last = o.last }

unfoldable pub set_config : OpenIso → Config → OpenIso
set_config o c = record { config = c; talks = o.talks; written = o.written; flight = o.flight; receiving = o.receiving; last = o.last }

unfoldable pub set_written : OpenIso → List Rec → OpenIso
set_written o w = record { config = o.config; talks = o.talks; written = w; flight = o.flight; receiving = o.receiving; last = o.last }

unfoldable pub set_flight : OpenIso → Option Flight → OpenIso
set_flight o f = record { config = o.config; talks = o.talks; written = o.written; flight = f; receiving = o.receiving; last = o.last }

unfoldable pub set_receiving : OpenIso → Receiving → OpenIso
set_receiving o r = record { config = o.config; talks = o.talks; written = o.written; flight = o.flight; receiving = r; last = o.last }

unfoldable pub set_last : OpenIso → ℕ → OpenIso
set_last o k = record { config = o.config; talks = o.talks; written = o.written; flight = o.flight; receiving = o.receiving; last = k }

-- ---- its two conversations
-- a conversation with another transfer; each conversation of the two; the one at a place
unfoldable pub turned : Talk → Transfer → Talk
turned c x = record { wide = c.wide; pattern = c.pattern; flow = c.flow; transfer = x }

unfoldable pub turned_slot : (Talk → Transfer) → Option Talk → Option Talk
turned_slot f none = none
turned_slot f (some c) = some (turned c (f c))

unfoldable pub turn_each : (Talk → Transfer) → Slots Talk → Slots Talk
turn_each f ts = map (turned_slot f) ts

unfoldable pub turn_at : ℕ → (Talk → Transfer) → Slots Talk → Slots Talk
turn_at k f ts = set ts k (turned_slot f (get_or ts k none))

-- what conversations tell
unfoldable pub news : (Talk → List Rec) → Slots Talk → List Rec
news f [] = []
news f (none ∷ ts) = news f ts
news f (some c ∷ ts) = f c ++ news f ts

unfoldable pub news_at : (Talk → List Rec) → Option Talk → List Rec
news_at f none = []
news_at f (some c) = f c

-- ---- records of 536 bytes
-- RxStart (bit 0x02) and TxDone (bit 0x08) have extra index 0, every other record its size
unfoldable pub extra_of : Rec → ℕ
extra_of r = if bit 0x02 r.rx || bit 0x08 r.rx then 0 else length r.bytes

unfoldable pub padded : List ℕ → List ℕ
padded b = b ++ zeros (iso_data - length b)

unfoldable pub shown_iso : Rec → List ℕ
shown_iso r =
    word iso_protocol ++ word r.rx ++ word r.tx ++ word r.time ++ word (length r.bytes) ++ word (extra_of r) ++ padded r.bytes

unfoldable pub shown_iso_all : List Rec → List ℕ
shown_iso_all [] = []
shown_iso_all (r ∷ rs) = shown_iso r ++ shown_iso_all rs

-- a lent buffer is shorter than n records
unfoldable pub shorter_iso : List ℕ → ℕ → Bool
shorter_iso b n = ltb (length b) (iso_record_size * n)

-- REFUSED: the channel and the buffer as they were, the code alone
unfoldable pub unless_iso : ℕ → Iso → List ℕ → IsoOutcome → IsoOutcome
unless_iso zero c b done = done
unless_iso (suc k) c b done = (c, says (suc k) 0 b)

unfoldable pub did : OpenIso → ℕ → IsoOutcome
did o v = (ready o, says 0x00 v [])

-- ---- the receive queue: 8 are held, each further one is lost and sets the mark
unfoldable pub arrive_iso : Receiving → List Rec → Receiving
arrive_iso r [] = r
arrive_iso r (x ∷ xs) =
    arrive_iso
    (if ltb (length r.queue) most_heard then record { queue = r.queue ++ x ∷ []; lost = r.lost }
    else record { queue = r.queue; lost = true }) xs

-- TxDone, with loopback the message after it
unfoldable pub tx_done : ℕ → Bool → Rec → List Rec
tx_done now loopback m =
    received now (m.tx + 9) (take id_size m.bytes) ∷ (if loopback then received now (m.tx + 1) m.bytes ∷ [] else [])

-- ---- the flight
unfoldable pub airborne_at : Option Talk → Bool
airborne_at none = false
airborne_at (some c) = airborne c.transfer

-- a frame of a transfer that is over belongs to nothing any more
unfoldable pub owner_in : Slots Talk → Owner → Owner
owner_in ts nobody = nobody
owner_in ts message = message
owner_in ts (transfer_at k) = if airborne_at (get_or ts k none) then transfer_at k else nobody

unfoldable pub flight_in : Slots Talk → Option Flight → Option Flight
flight_in ts none = none
flight_in ts (some f) = some (record { frame = f.frame; owner = owner_in ts f.owner })

-- the channel with other conversations
unfoldable pub with_talks : OpenIso → Slots Talk → OpenIso
with_talks o ts = set_flight (set_talks o ts) (flight_in ts o.flight)

-- ---- frames and time
unfoldable pub on_iso_frame : ℕ → Iso → ℕ → ℕ → List ℕ → Iso
on_iso_frame now shut wide id b = shut
on_iso_frame now (ready o) wide id b =
    if eqb (frame_code wide id b) 0x00
    then ready
    (set_receiving (with_talks o (turn_each (λ c. (heard now (eqb wide 1) id b c).transfer) o.talks))
    (arrive_iso o.receiving (news (λ c. (heard now (eqb wide 1) id b c).records) o.talks)))
    else ready o

unfoldable pub on_iso_advance : ℕ → Iso → Iso
on_iso_advance t shut = shut
on_iso_advance t (ready o) =
    if leb t most_advance then ready (with_talks o (turn_each (λ c. later_transfer t c.transfer) o.talks)) else ready o

-- ---- filters: type 3 alone
-- pattern or flow is an identifier of the conversation
unfoldable pub knows : Bool → ℕ → ℕ → Talk → Bool
knows wide pattern flow c =
    beq wide c.wide && (member pattern (c.pattern ∷ c.flow ∷ []) || member flow (c.pattern ∷ c.flow ∷ []))

unfoldable pub talk_code : OpenIso → ℕ → List ℕ → List ℕ → List ℕ → ℕ
talk_code o type mask pattern flow =
    code_of
    ((shorter_iso mask 1 || shorter_iso pattern 1 || shorter_iso flow 1, 0x04)
    ∷ (not (eqb type 3), 0x16)
    ∷ (not (eqb (protocol_of mask) iso_protocol), 0x15)
    ∷ (not (eqb (protocol_of pattern) iso_protocol), 0x15)
    ∷ (not (eqb (protocol_of flow) iso_protocol), 0x15)
    ∷ (not (eqb (size_of mask) id_size && eqb (size_of pattern) id_size && eqb (size_of flow) id_size), 0x0A)
    ∷ (not (eqb (id_of (data_of mask)) 0xFFFF_FFFF), 0x0A)
    ∷ (not (eqb (tx_flags_of mask) (tx_flags_of pattern) && eqb (tx_flags_of mask) (tx_flags_of flow)), 0x0A)
    ∷ (not (takes o.config.flags (wide_of mask)), 0x0A)
    ∷ (ltb (id_limit (wide_of mask)) (id_of (data_of pattern)), 0x0A)
    ∷ (ltb (id_limit (wide_of mask)) (id_of (data_of flow)), 0x0A)
    ∷ (any_slot (knows (wide_of mask) (id_of (data_of pattern)) (id_of (data_of flow))) o.talks, 0x18)
    ∷ (leb most_talks (free o.talks), 0x0C)
    ∷ [])

unfoldable pub talk_of : List ℕ → List ℕ → List ℕ → Talk
talk_of mask pattern flow =
    record { wide = wide_of mask; pattern = id_of (data_of pattern); flow = id_of (data_of flow); transfer = idle }

unfoldable pub on_start_talk : OpenIso → ℕ → List ℕ → List ℕ → List ℕ → IsoOutcome
on_start_talk o type mask pattern flow =
    unless_iso (talk_code o type mask pattern flow) (ready o) []
    (did (set_talks o (set o.talks (free o.talks) (some (talk_of mask pattern flow)))) (free o.talks + 1))

-- the conversation ends with its filter
unfoldable pub on_stop_talk : OpenIso → ℕ → IsoOutcome
on_stop_talk o number =
    unless_iso (code_of ((not (has o.talks number), 0x16) ∷ [])) (ready o) [] (did (with_talks o (set o.talks (number - 1) none)) 0)

-- ---- messages written
unfoldable pub iso_message_code : ℕ → List ℕ → ℕ
iso_message_code flags m =
    code_of
    ((not (eqb (protocol_of m) iso_protocol), 0x15)
    ∷ (not (within least_message iso_data (size_of m)), 0x0A)
    ∷ (not (takes flags (wide_of m)), 0x0A)
    ∷ (ltb (id_limit (wide_of m)) (id_of (data_of m)), 0x0A)
    ∷ [])

-- the message's own code; 0x17 where it is segmented and no filter matches it; 0x11 where 4 are held
unfoldable pub iso_write_code : ℕ → Slots Talk → List Rec → List ℕ → ℕ
iso_write_code flags ts held m =
    code_of
    ((not (eqb (iso_message_code flags m) 0), iso_message_code flags m)
    ∷ (ltb longest_single (size_of m) && not (any_slot (carries (wide_of m) (id_of (data_of m))) ts), 0x17)
    ∷ (leb most_messages (length held), 0x11)
    ∷ [])

unfoldable pub iso_writing : ℕ → Slots Talk → ℕ → List ℕ → List Rec → ℕ → Wrote
iso_writing flags ts zero b held count = record { held = held; count = count; code = 0x00 }
iso_writing flags ts (suc n) b held count =
    unless_stopped (iso_write_code flags ts held b) held count (iso_writing flags ts n (drop iso_record_size b) (held ++ clean b ∷ []) (count + 1))

unfoldable pub on_iso_write : OpenIso → ℕ → List ℕ → IsoOutcome
on_iso_write o n b =
    let w : Wrote = iso_writing o.config.flags o.talks n b o.written 0 in
    unless_iso (code_of ((shorter_iso b n, 0x04) ∷ [])) (ready o) [] (ready (set_written o w.held), says w.code w.count [])

-- ---- take
-- of a written message; a message of up to 7 payload bytes (size 11) is one single frame
unfoldable pub single_frame : Rec → Rec
single_frame m = record { rx = 0; tx = m.tx; time = 0; bytes = take id_size m.bytes ++ (length m.bytes - id_size) ∷ drop id_size m.bytes }

-- with the conversations and written messages that it leaves
pub record Chosen : Type 0 where
  pub frame : Rec
  pub owner : Owner
  pub talks : Slots Talk
  pub written : List Rec

unfoldable pub passing : Option Talk → Option Chosen → Option Chosen
passing s none = none
passing s (some x) = some (record { frame = x.frame; owner = x.owner; talks = s ∷ x.talks; written = x.written })

unfoldable pub giving : Option Given → Talk → Slots Talk → List Rec → Option Chosen → Option Chosen
giving none c ts ws more = more
giving (some g) c ts ws more =
    some (record { frame = g.frame; owner = g.owner; talks = some (turned c g.transfer) ∷ ts; written = ws })

-- the lowest-numbered conversation that has something to give
unfoldable pub lowest : (ℕ → Talk → Option Given) → ℕ → Slots Talk → List Rec → Option Chosen
lowest f k [] ws = none
lowest f k (none ∷ ts) ws = passing none (lowest f (suc k) ts ws)
lowest f k (some c ∷ ts) ws = giving (f k c) c ts ws (passing (some c) (lowest f (suc k) ts ws))

-- the oldest written message, if it may start
unfoldable pub starting : List Rec → Slots Talk → Option Chosen
starting [] ts = none
starting (m ∷ ws) ts =
    if leb (length m.bytes) longest_single then some (record { frame = single_frame m; owner = message; talks = ts; written = ws })
    else lowest (λ k c. start_of m k c c.transfer) 0 ts ws

unfoldable pub or_else : Option Chosen → Option Chosen → Option Chosen
or_else none y = y
or_else (some x) y = some x

-- THE CHOICE. Flow frames, then the transmission; a written message only where none is under way
unfoldable pub choice : Slots Talk → List Rec → Option Chosen
choice ts ws =
    or_else (lowest (λ k c. answer_of k c c.transfer) 0 ts ws)
    (if any_slot (λ c. transmitting c.transfer) ts then lowest (λ k c. segment_of k c c.transfer) 0 ts ws else starting ws ts)

unfoldable pub showing : Rec → List ℕ → Answer
showing r b = says 0x00 0 (shown_iso r ++ drop iso_record_size b)

unfoldable pub on_chosen : OpenIso → Option Chosen → List ℕ → IsoOutcome
on_chosen o none b = (ready o, says 0x10 0 b)
on_chosen o (some x) b =
    (ready (set_flight (set_written (set_talks o x.talks) x.written) (some (record { frame = x.frame; owner = x.owner }))), showing x.frame b)

unfoldable pub iso_taking : OpenIso → Option Flight → List ℕ → IsoOutcome
iso_taking o (some f) b = (ready o, showing f.frame b)
iso_taking o none b = on_chosen o (choice o.talks o.written) b

unfoldable pub on_iso_take : OpenIso → List ℕ → IsoOutcome
on_iso_take o b = unless_iso (code_of ((shorter_iso b 1, 0x04) ∷ [])) (ready o) b (iso_taking o o.flight b)

-- ---- sent
unfoldable pub un_single : Rec → Rec
un_single f = record { rx = 0; tx = f.tx; time = 0; bytes = take id_size f.bytes ++ drop (suc id_size) f.bytes }

-- what the sent of a frame does to the conversations, and which messages it ends
unfoldable pub landed_talks : Owner → Slots Talk → Slots Talk
landed_talks nobody ts = ts
landed_talks message ts = ts
landed_talks (transfer_at k) ts = turn_at k (λ c. sent_of c.transfer) ts

unfoldable pub messages_done : Flight → Owner → Slots Talk → List Rec
messages_done f nobody ts = []
messages_done f message ts = un_single f.frame ∷ []
messages_done f (transfer_at k) ts = news_at (λ c. done_of c c.transfer) (get_or ts k none)

unfoldable pub done_records : ℕ → Bool → List Rec → List Rec
done_records now loopback [] = []
done_records now loopback (m ∷ ms) = tx_done now loopback m ++ done_records now loopback ms

unfoldable pub iso_sending : ℕ → OpenIso → Option Flight → IsoOutcome
iso_sending now o none = (ready o, says 0x07 0 [])
iso_sending now o (some f) =
    did
    (set_receiving (set_flight (set_talks o (landed_talks f.owner o.talks)) none)
    (arrive_iso o.receiving (done_records now o.config.loopback (messages_done f f.owner o.talks)))) 0

-- ---- read, clear, configuration
unfoldable pub iso_reading : OpenIso → ℕ → List ℕ → ℕ → IsoOutcome
iso_reading o n b m =
    let r : Receiving = o.receiving in (
      ready (set_receiving o (record { queue = drop m r.queue; lost = false })),
      says (read_code r.lost n m) m (shown_iso_all (take m r.queue) ++ drop (iso_record_size * m) b),
    )

unfoldable pub on_iso_read : OpenIso → ℕ → List ℕ → IsoOutcome
on_iso_read o n b =
    unless_iso (code_of ((shorter_iso b n, 0x04) ∷ [])) (ready o) b
    (if eqb n 0 then (ready o, says 0x00 0 b) else iso_reading o n b (min n (length o.receiving.queue)))

unfoldable pub on_iso_clear : OpenIso → ℕ → IsoOutcome
on_iso_clear o kind =
    if eqb kind 1 then did (set_written o []) 0
    else if eqb kind 2 then did (set_receiving o (record { queue = []; lost = false })) 0
    else if eqb kind 3 then did o 0
    else if eqb kind 4 then did (with_talks o no_talks) 0
    else (ready o, says 0x0F 0 [])

-- get and set as on any channel (`get_in`, `set_in`), with one parameter and with a list
unfoldable pub on_iso_get : OpenIso → ℕ → IsoOutcome
on_iso_get o parameter = let r : ℕ × ℕ = get_in o.config parameter in (ready o, says r.0 r.1 [])

unfoldable pub iso_set_to : OpenIso → ℕ × Config → IsoOutcome
iso_set_to o r = (ready (set_config o r.1), says r.0 0 [])

unfoldable pub on_iso_set : List ℕ → OpenIso → ℕ → ℕ → IsoOutcome
on_iso_set rates o parameter value = iso_set_to o (set_in rates o.config parameter value)

unfoldable pub on_iso_get_list : OpenIso → Pairs → IsoOutcome
on_iso_get_list o ps =
    let r : ℕ × Pairs = get_all o.config ps in
    unless_iso (list_code ps) (ready o) (flat ps) (ready o, says r.0 0 (flat r.1))

unfoldable pub on_iso_set_list : List ℕ → OpenIso → Pairs → IsoOutcome
on_iso_set_list rates o ps = unless_iso (list_code ps) (ready o) [] (iso_set_to o (set_all rates o.config ps))

-- ---- connecting, and every call
unfoldable pub iso_connect_code : List ℕ → ℕ → ℕ → ℕ → List (Bool × ℕ) → ℕ
iso_connect_code rates protocol flags rate more =
    code_of ((not (eqb protocol iso_protocol), 0x03) ∷ (not (is_flags flags), 0x06) ∷ (not (member rate rates), 0x19) ∷ more)

unfoldable pub fresh_iso : ℕ → ℕ → OpenIso
fresh_iso flags rate =
    record {
      config = record { flags = flags; rate = rate; loopback = false };
      talks = no_talks;
      written = [];
      flight = none;
      receiving = record { queue = []; lost = false };
      last = 0x00;
    }

unfoldable pub is_ready : Iso → Bool
is_ready shut = false
is_ready (ready o) = true

-- line L has channel number L + 5
unfoldable pub on_iso_connect : List ℕ → Iso → ℕ → ℕ → ℕ → ℕ → IsoOutcome
on_iso_connect rates c line protocol flags rate =
    unless_iso (iso_connect_code rates protocol flags rate ((is_ready c, 0x14) ∷ [])) c [] (did (fresh_iso flags rate) (line + first_iso))

-- no periodics here; a start filter that lends no third record has a buffer too short. The last four take the number of a raw channel, so that the box
-- hands this one none of them (`whole`)
unfoldable pub on_ready : List ℕ → ℕ → OpenIso → Call → IsoOutcome
on_ready rates now o disconnect = (shut, says 0x00 0 [])
on_ready rates now o (start_filter type mask pattern) = on_start_talk o type mask pattern []
on_ready rates now o (start_flow type mask pattern flow) = on_start_talk o type mask pattern flow
on_ready rates now o (stop_filter number) = on_stop_talk o number
on_ready rates now o (start_periodic m interval) = (ready o, says (code_of ((shorter_iso m 1, 0x04) ∷ (true, 0x01) ∷ [])) 0 [])
on_ready rates now o (stop_periodic number) = (ready o, says 0x0D 0 [])
on_ready rates now o (write n buffer) = on_iso_write o n buffer
on_ready rates now o (read n buffer) = on_iso_read o n buffer
on_ready rates now o (take_next buffer) = on_iso_take o buffer
on_ready rates now o sent = iso_sending now o o.flight
on_ready rates now o (clear kind) = on_iso_clear o kind
on_ready rates now o (get_parameter parameter) = on_iso_get o parameter
on_ready rates now o (set_parameter parameter value) = on_iso_set rates o parameter value
on_ready rates now o last_error = did o o.last
on_ready rates now o (get_list pairs) = on_iso_get_list o pairs
on_ready rates now o (set_list pairs) = on_iso_set_list rates o pairs
on_ready rates now o (on_raw x) = (ready o, says 0x01 0 (raw_lent x))

-- 0x02 where the channel is not open
unfoldable pub on_iso_call : List ℕ → ℕ → Iso → Call → IsoOutcome
on_iso_call rates now shut x = (shut, says 0x02 0 (lent x))
on_iso_call rates now (ready o) x = on_ready rates now o x

-- ---- what went wrong last
-- the codes that a call on an open channel can give, and so what it can keep as its last: never 0x02, 0x0B, nor those of a connect but 0x14
unfoldable pub iso_codes : List ℕ
iso_codes =
    0x00 ∷ 0x01 ∷ 0x04 ∷ 0x05 ∷ 0x07 ∷ 0x09 ∷ 0x0A ∷ 0x0C ∷ 0x0D ∷ 0x0F ∷ 0x10 ∷ 0x11 ∷ 0x12 ∷ 0x14 ∷ 0x15 ∷ 0x16 ∷ 0x17 ∷ 0x18 ∷ []

-- a channel with the code that was given to a call on it as its last; 0x00 leaves what it had
unfoldable pub iso_notes : ℕ → Iso → Iso
iso_notes zero c = c
iso_notes (suc k) shut = shut
iso_notes (suc k) (ready o) = ready (set_last o (suc k))

-- a call, with its code noted, be it a refusal or a result
unfoldable pub iso_noted : IsoOutcome → IsoOutcome
iso_noted x = (iso_notes x.1.code x.0, x.1)

-- a connect: only 0x14 is noted, by the channel that is in use
unfoldable pub iso_noted_in_use : IsoOutcome → IsoOutcome
iso_noted_in_use x = if eqb x.1.code 0x14 then iso_noted x else x
