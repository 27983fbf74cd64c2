-- What a start of a flow-control filter asks of its three records, once each is a whole record. Assumes nothing.
use Rattle.std.specs.Prelude.{ℕ, Bool, not, ◌&&◌, List, [], ◌∷◌, drop, eqb, ltb}
use Rattle.machine.specs.Limits.{data_in}
use Rattle.machine.specs.Message.{bit, takes, id_limit, id_of, protocol_of, size_of, tx_flags_of}
use Rattle.iso.specs.Limits.{iso_protocol, id_size}
use Rattle.talk_starts.specs.declared.Naming.{Naming}

unfoldable pub naming_of : List ℕ → Naming
naming_of m = record { protocol = protocol_of m; size = size_of m; tx = tx_flags_of m; id = id_of (drop data_in m) }

-- the tests of `talk_code` that are of the records alone, in their order, but for the lengths
unfoldable pub start_tests : ℕ → ℕ → Naming → Naming → Naming → List (Bool × ℕ)
start_tests flags type m p f =
    (not (eqb type 3), 0x16)
    ∷ (not (eqb m.protocol iso_protocol), 0x15)
    ∷ (not (eqb p.protocol iso_protocol), 0x15)
    ∷ (not (eqb f.protocol iso_protocol), 0x15)
    ∷ (not (eqb m.size id_size && eqb p.size id_size && eqb f.size id_size), 0x0A)
    ∷ (not (eqb m.id 0xFFFF_FFFF), 0x0A)
    ∷ (not (eqb m.tx p.tx && eqb m.tx f.tx), 0x0A)
    ∷ (not (takes flags (bit 0x100 m.tx)), 0x0A)
    ∷ (ltb (id_limit (bit 0x100 m.tx)) p.id, 0x0A)
    ∷ (ltb (id_limit (bit 0x100 m.tx)) f.id, 0x0A)
    ∷ []
