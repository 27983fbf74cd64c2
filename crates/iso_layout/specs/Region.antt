-- The region of an ISO 15765 channel: its two conversations, its written messages, its flight, its queue, and the rest. Places that hold nothing, and
-- what follows the bytes of a payload, are zeros. Assumes nothing.
use Rattle.std.specs.Prelude.{ℕ, zero, suc, ◌+◌, ◌-◌, ◌%◌, Bool, true, false, ◌&&◌, ◌||◌, not, List, [], ◌∷◌, length, get_or, drop, eqb, leb, ltb}
use Rattle.std.proofs.Math.Option.{Option, none, some}
use Rattle.codec.specs.Plain.{within, member}
use Rattle.codec.specs.Code.{Code, byte, word32, both, both_on, via, such, mark, many, slot, up_to}
use Rattle.machine.specs.Limits.{most_data}
use Rattle.machine.specs.Message.{takes, id_limit, Rec}
use Rattle.machine.specs.Filter.{Slots, any_slot}
use Rattle.machine.specs.Channel.{Config, Receiving, listens}
use Rattle.layout.specs.Memory.{config}
use Rattle.iso.specs.Limits.{most_talks, most_messages, most_heard, id_size, least_message, most_payload, least_segmented, in_first, in_next, second, longest_gap}
use Rattle.iso.specs.Iso.{Reception, Stage, opens, awaits, flies, sends, Transmission, Transfer, idle, refuses, receives, transmits, Talk, Owner, nobody, message, transfer_at, Flight, OpenIso, Iso, shut, ready, knows, transmitting, airborne_at, iso_codes}
pub use Rattle.iso_layout.specs.Record.{IsoParts}
unfoldable pub use Rattle.iso_layout.specs.Record.{indication, extra_is, iso_parts, iso_back, iso_fits, rec536, iso_outgoing, iso_incoming, message_cell, frame_cell, heard_cell, payload_parts, payload_back, payload_fits, payload508}

-- ---- a transfer: what it is (0 idle, 1 an overflow waits, 2 receives, 3 to 6 transmits: first frame flies, awaits, consecutive frame flies, sends);
-- the length awaited, or the bytes taken; the microseconds run or left; frames left in the block; STmin; whether the go-on waits; the payload

abbrev pub Transferred : Type 0
Transferred = ℕ × (ℕ × (ℕ × (ℕ × (ℕ × (Bool × List ℕ)))))

abbrev pub transferred : (kind n time left gap : ℕ) (go_on : Bool) (bytes : List ℕ) → Transferred
transferred kind n time left gap go_on bytes = (kind, (n, (time, (left, (gap, (go_on, bytes))))))

abbrev pub stage_parts : List ℕ → ℕ → Stage → Transferred
stage_parts b n opens = transferred 3 n 0 0 0 false b
stage_parts b n (awaits run) = transferred 4 n run 0 0 false b
stage_parts b n (flies left gap) = transferred 5 n 0 left gap false b
stage_parts b n (sends left gap wait) = transferred 6 n wait left gap false b

abbrev pub transfer_parts : Transfer → Transferred
transfer_parts idle = transferred 0 0 0 0 0 false []
transfer_parts refuses = transferred 1 0 0 0 0 false []
transfer_parts (receives r) = transferred 2 r.size r.run 0 0 r.go_on r.bytes
transfer_parts (transmits t) = stage_parts t.payload t.taken t.stage

abbrev pub transmits_at : List ℕ → ℕ → Stage → Transfer
transmits_at b n s = transmits (record { payload = b; taken = n; stage = s })

abbrev pub transfer_on : (kind n time left gap : ℕ) (go_on : Bool) (bytes : List ℕ) → Transfer
transfer_on zero n time left gap go_on b = idle
transfer_on (suc zero) n time left gap go_on b = refuses
transfer_on (suc (suc zero)) n time left gap go_on b = receives (record { size = n; bytes = b; run = time; go_on = go_on })
transfer_on (suc (suc (suc zero))) n time left gap go_on b = transmits_at b n opens
transfer_on (suc (suc (suc (suc zero)))) n time left gap go_on b = transmits_at b n (awaits time)
transfer_on (suc (suc (suc (suc (suc zero))))) n time left gap go_on b = transmits_at b n (flies left gap)
transfer_on (suc (suc (suc (suc (suc (suc k)))))) n time left gap go_on b = transmits_at b n (sends left gap time)

abbrev pub transfer_back : Transferred → Transfer
transfer_back p = transfer_on p.0 p.1.0 p.1.1.0 p.1.1.1.0 p.1.1.1.1.0 p.1.1.1.1.1.0 p.1.1.1.1.1.1

-- 6, 13, 20, ..
unfoldable pub step_of7 : ℕ → Bool
step_of7 n = leb in_first n && eqb ((n + 1) % in_next) 0

-- a gap that some STmin gives
unfoldable pub is_gap : ℕ → Bool
is_gap n = eqb (n % 1000) 0 && leb n longest_gap || eqb (n % 100) 0 && ltb n 1000

-- no time, no block, no go-on: what plays no part is zero
abbrev pub still : ℕ → ℕ → ℕ → Bool → Bool
still time left gap go_on = eqb time 0 && eqb left 0 && eqb gap 0 && not go_on

abbrev pub paced : ℕ → ℕ → Bool → Bool
paced left gap go_on = ltb left 256 && is_gap gap && not go_on

abbrev pub kind_fits : (kind n time left gap : ℕ) (go_on : Bool) (bytes : List ℕ) → Bool
kind_fits zero n time left gap go_on b = still time left gap go_on && eqb n 0 && eqb (length b) 0
kind_fits (suc zero) n time left gap go_on b = still time left gap go_on && eqb n 0 && eqb (length b) 0
kind_fits (suc (suc zero)) n time left gap go_on b =
    eqb left 0 && eqb gap 0 && within least_segmented most_payload n && step_of7 (length b) && ltb (length b) n && ltb time second
kind_fits (suc (suc (suc zero))) n time left gap go_on b = still time left gap go_on && leb least_segmented (length b) && eqb n in_first
kind_fits (suc (suc (suc (suc zero)))) n time left gap go_on b =
    eqb left 0 && eqb gap 0 && not go_on && step_of7 n && ltb n (length b) && leb least_segmented (length b) && ltb time second
kind_fits (suc (suc (suc (suc (suc zero))))) n time left gap go_on b =
    paced left gap go_on && step_of7 n && leb (in_first + in_next) n && ltb n (length b + in_next) && leb least_segmented (length b) && eqb time 0
kind_fits (suc (suc (suc (suc (suc (suc k)))))) n time left gap go_on b =
    paced left gap go_on && step_of7 n && ltb n (length b) && leb least_segmented (length b) && leb time gap && eqb k 0

unfoldable pub transfer_fits : Transferred → Bool
transfer_fits p = kind_fits p.0 p.1.0 p.1.1.0 p.1.1.1.0 p.1.1.1.1.0 p.1.1.1.1.1.0 p.1.1.1.1.1.1

unfoldable pub transfer_plain : Code Transferred
transfer_plain = both byte (both word32 (both word32 (both word32 (both word32 (both mark payload508)))))

unfoldable pub transfer_code : Code Transfer
transfer_code = via transfer_parts transfer_back (such transfer_fits transfer_plain)

-- ---- a conversation: width, pattern, flow, transfer; both identifiers in the range of the width, the width one that the connection takes; with
-- pattern equal to flow nothing segmented is received

abbrev pub talk_parts : Talk → Bool × (ℕ × (ℕ × Transfer))
talk_parts c = (c.wide, (c.pattern, (c.flow, c.transfer)))

abbrev pub talk_back : Bool × (ℕ × (ℕ × Transfer)) → Talk
talk_back p = record { wide = p.0; pattern = p.1.0; flow = p.1.1.0; transfer = p.1.1.1 }

unfoldable pub segments_in : Transfer → Bool
segments_in idle = false
segments_in refuses = true
segments_in (receives r) = true
segments_in (transmits t) = false

unfoldable pub talk_fits : ℕ → Talk → Bool
talk_fits flags c =
    takes flags c.wide
    && leb c.pattern (id_limit c.wide)
    && leb c.flow (id_limit c.wide)
    && not (eqb c.pattern c.flow && segments_in c.transfer)

unfoldable pub talk_cell : ℕ → Code Talk
talk_cell flags = such (talk_fits flags) (via talk_parts talk_back (both mark (both word32 (both word32 transfer_code))))

unfoldable pub talks_code : ℕ → Code (Slots Talk)
talks_code flags = many most_talks (slot (talk_cell flags))

-- ---- the flight: what it belongs to (0 nothing any more, 1 a single-frame message, 2 and 3 the transfer at a place), and the frame

abbrev pub owner_parts : Owner → ℕ
owner_parts nobody = 0
owner_parts message = 1
owner_parts (transfer_at k) = suc (suc k)

abbrev pub owner_back : ℕ → Owner
owner_back zero = nobody
owner_back (suc zero) = message
owner_back (suc (suc k)) = transfer_at k

abbrev pub flight_parts : Flight → ℕ × Rec
flight_parts f = (owner_parts f.owner, f.frame)

abbrev pub flight_back : ℕ × Rec → Flight
flight_back p = record { frame = p.1; owner = owner_back p.0 }

-- the frame of a single-frame message tells how many bytes follow
unfoldable pub owned_fits : ℕ × Rec → Bool
owned_fits p =
    leb p.0 (suc most_talks)
    && (not (eqb p.0 1) || within (suc least_message) most_data (length p.1.bytes) && eqb (get_or p.1.bytes id_size 0) (length p.1.bytes - suc id_size))

unfoldable pub flight_code : ℕ → Code Flight
flight_code flags = via flight_parts flight_back (such owned_fits (both byte (frame_cell flags)))

-- ---- the channel

abbrev pub heard_parts : Receiving → List Rec × Bool
heard_parts r = (r.queue, r.lost)

abbrev pub heard_back : List Rec × Bool → Receiving
heard_back p = record { queue = p.0; lost = p.1 }

unfoldable pub heard_part : ℕ → Code Receiving
heard_part flags = via heard_parts heard_back (both (up_to most_heard (heard_cell flags)) mark)

-- the last code is one that a call on an open channel can give
unfoldable pub iso_last_part : Code ℕ
iso_last_part = such (λ n. member n iso_codes) byte

abbrev pub IsoRest : Type 0
IsoRest = Slots Talk × (List Rec × (Option Flight × (Receiving × ℕ)))

abbrev pub ready_parts : OpenIso → Config × IsoRest
ready_parts o = (o.config, (o.talks, (o.written, (o.flight, (o.receiving, o.last)))))

abbrev pub ready_back : Config × IsoRest → OpenIso
ready_back p = record { config = p.0; talks = p.1.0; written = p.1.1.0; flight = p.1.1.1.0; receiving = p.1.1.1.1.0; last = p.1.1.1.1.1 }

unfoldable pub iso_rest : ℕ → Code IsoRest
iso_rest flags = both (talks_code flags) (both (up_to most_messages (message_cell flags)) (both (slot (flight_code flags)) (both (heard_part flags) iso_last_part)))

-- what the parts say of each other: the two conversations share no identifier of one width, at most one transmits, the frame of a transfer is in
-- flight exactly if the transfer says so
unfoldable pub transmits_in : Option Talk → Bool
transmits_in none = false
transmits_in (some c) = transmitting c.transfer

unfoldable pub knows_other : Option Talk → Slots Talk → Bool
knows_other none ts = false
knows_other (some c) ts = any_slot (knows c.wide c.pattern c.flow) ts

unfoldable pub owner_fits : Slots Talk → Owner → Bool
owner_fits ts nobody = true
owner_fits ts message = true
owner_fits ts (transfer_at k) = airborne_at (get_or ts k none)

-- a transmission whose frame flies
unfoldable pub flies_in : Option Talk → Bool
flies_in s = transmits_in s && airborne_at s

unfoldable pub owned_by : ℕ → Option Flight → Bool
owned_by k none = false
owned_by k (some f) = eqb (owner_parts f.owner) (k + 2)

unfoldable pub flight_fits : Slots Talk → Option Flight → Bool
flight_fits ts none = true
flight_fits ts (some f) = owner_fits ts f.owner

unfoldable pub linked_talks : Slots Talk → Option Flight → Bool
linked_talks ts f =
    not (knows_other (get_or ts 0 none) (drop 1 ts))
    && not (transmits_in (get_or ts 0 none) && transmits_in (get_or ts 1 none))
    && flight_fits ts f
    && (not (flies_in (get_or ts 0 none)) || owned_by 0 f)
    && (not (flies_in (get_or ts 1 none)) || owned_by 1 f)

-- and no such channel is a listener
unfoldable pub linked : OpenIso → Bool
linked o = linked_talks o.talks o.flight && not (listens o.config.flags)

unfoldable pub ready_part : Code OpenIso
ready_part = such linked (via ready_parts ready_back (both_on (λ c. c.flags) config iso_rest))

-- a channel's region: 0 and zeros where it is closed, else 1 and what it holds
abbrev pub iso_chan_parts : Iso → Option OpenIso
iso_chan_parts shut = none
iso_chan_parts (ready o) = some o

abbrev pub iso_chan_back : Option OpenIso → Iso
iso_chan_back none = shut
iso_chan_back (some o) = ready o

unfoldable pub iso_region : Code Iso
iso_region = via iso_chan_parts iso_chan_back (slot ready_part)
