-- A stored record of an ISO 15765 channel, 536 bytes, and which of them may wait to be sent, be in flight or wait to be read on a connection of given
-- flags; a payload of at most 508 bytes. Zeros follow the data. Assumes nothing.
use Rattle.std.specs.Prelude.{ℕ, ◌-◌, Bool, ◌&&◌, ◌||◌, List, [], ◌∷◌, ◌++◌, length, take, drop, eqb, leb, if◌then◌else◌}
use Rattle.codec.specs.Plain.{within, member, zeros, all_zero}
use Rattle.codec.specs.Code.{Code, byte, word32, both, via, such, many}
use Rattle.machine.specs.Limits.{most_data}
use Rattle.machine.specs.Message.{bit, Rec}
use Rattle.layout.specs.Record.{width_fits}
use Rattle.iso.specs.Limits.{iso_protocol, id_size, iso_data, least_message, most_payload}
use Rattle.iso.specs.Iso.{padded}

-- ---- records: protocol 6, RxStatus, TxFlags, timestamp, size, extra index, 512 data bytes

abbrev pub IsoParts : Type 0
IsoParts = ℕ × (ℕ × (ℕ × (ℕ × (ℕ × (ℕ × List ℕ)))))

-- RxStart and TxDone are indications: they are an identifier alone, and their extra index is 0
unfoldable pub indication : ℕ → Bool
indication rx = bit 0x02 rx || bit 0x08 rx

unfoldable pub extra_is : ℕ → ℕ → ℕ
extra_is rx size = if indication rx then 0 else size

unfoldable pub iso_parts : Rec → IsoParts
iso_parts r = (iso_protocol, (r.rx, (r.tx, (r.time, (length r.bytes, (extra_is r.rx (length r.bytes), padded r.bytes))))))

unfoldable pub iso_back : IsoParts → Rec
iso_back p = record { rx = p.1.0; tx = p.1.1.0; time = p.1.1.1.0; bytes = take p.1.1.1.1.0 p.1.1.1.1.1.1 }

unfoldable pub iso_fits : IsoParts → Bool
iso_fits p =
    eqb p.0 iso_protocol
    && within id_size iso_data p.1.1.1.1.0
    && eqb p.1.1.1.1.1.0 (extra_is p.1.0 p.1.1.1.1.0)
    && all_zero (drop p.1.1.1.1.0 p.1.1.1.1.1.1)

unfoldable pub rec536 : Code Rec
rec536 = via iso_parts iso_back (such iso_fits (both word32 (both word32 (both word32 (both word32 (both word32 (both word32 (many iso_data byte))))))))

-- to send: RxStatus 0, TxFlags 0 or 256, timestamp 0. A written message has 5 to 512 bytes, a frame in flight 5 to 12
unfoldable pub iso_outgoing : ℕ → ℕ → Rec → Bool
iso_outgoing flags most r =
    eqb r.rx 0
    && member r.tx (0 ∷ 0x100 ∷ [])
    && eqb r.time 0
    && within least_message most (length r.bytes)
    && width_fits flags (bit 0x100 r.tx) r.bytes

-- to read: a message, a loopback, RxStart, TxDone; the last two are the identifier alone
unfoldable pub iso_incoming : ℕ → Rec → Bool
iso_incoming flags r =
    member r.rx (0 ∷ 1 ∷ 2 ∷ 9 ∷ 0x100 ∷ 0x101 ∷ 0x102 ∷ 0x109 ∷ [])
    && eqb r.tx 0
    && (if indication r.rx then eqb (length r.bytes) id_size else leb least_message (length r.bytes))
    && width_fits flags (bit 0x100 r.rx) r.bytes

unfoldable pub message_cell : ℕ → Code Rec
message_cell flags = such (iso_outgoing flags iso_data) rec536

unfoldable pub frame_cell : ℕ → Code Rec
frame_cell flags = such (iso_outgoing flags most_data) rec536

unfoldable pub heard_cell : ℕ → Code Rec
heard_cell flags = such (iso_incoming flags) rec536

-- ---- at most 508 bytes: how many, a number, then they, then zeros

unfoldable pub payload_parts : List ℕ → ℕ × List ℕ
payload_parts b = (length b, b ++ zeros (most_payload - length b))

unfoldable pub payload_back : ℕ × List ℕ → List ℕ
payload_back p = take p.0 p.1

unfoldable pub payload_fits : ℕ × List ℕ → Bool
payload_fits p = leb p.0 most_payload && all_zero (drop p.0 p.1)

unfoldable pub payload508 : Code (List ℕ)
payload508 = via payload_parts payload_back (such payload_fits (both word32 (many most_payload byte)))
