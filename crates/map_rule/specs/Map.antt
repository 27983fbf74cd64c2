-- Request P8, narrow filters of size 4 or less as two maps of 2,048 bits, one for pass and one for block. They follow from the filters and are
-- nothing of the state. Assumes nothing.
use Rattle.std.specs.Prelude.{ℕ, zero, suc, ◌+◌, ◌*◌, ◌/◌, ◌%◌, Bool, true, false, not, ◌&&◌, ◌||◌, List, [], ◌∷◌, ◌++◌, get_or, eqb, leb, if◌then◌else◌}
use Rattle.std.specs.Bool.{beq}
use Rattle.std.proofs.Math.Option.{Option, none, some}
use Rattle.codec.specs.Code.{mark_of}
use Rattle.machine.specs.Limits.{least_data}
use Rattle.machine.specs.Message.{id_bytes}
use Rattle.machine.specs.Filter.{Slots, Filter, any_slot, matches, hits}

-- the bytes of a map and of both, and the identifiers of narrow frames: a bit each
abbrev pub map_size : ℕ
map_size = 256

abbrev pub maps_size : ℕ
maps_size = map_size + map_size

abbrev pub narrow_ids : ℕ
narrow_ids = map_size * 8

-- a filter of the map: narrow, and no longer than an identifier
unfoldable pub in_map : Filter → Bool
in_map f = not f.wide && leb f.size least_data

-- THE BIT of a narrow identifier: some filter of the map and of this kind matches it
unfoldable pub map_bit : Bool → Slots Filter → ℕ → Bool
map_bit block fs id = any_slot (λ f. in_map f && (beq f.block block && matches false (id_bytes id) f)) fs

-- n bits as a number, the first lowest, and a bit of a number
unfoldable pub packed : ℕ → (ℕ → Bool) → ℕ
packed zero p = 0
packed (suc n) p = packed n (λ k. p (suc k)) * 2 + mark_of (p 0)

unfoldable pub bit_at : ℕ → ℕ → Bool
bit_at zero n = eqb (n % 2) 1
bit_at (suc i) n = bit_at i (n / 2)

-- the values at 0 to n - 1
unfoldable pub counted : {A : Type 0} → ℕ → (ℕ → A) → List A
counted zero at = []
counted (suc n) at = counted n at ++ (at n ∷ [])

-- a map's byte k: the bits of the identifiers 8 k to 8 k + 7
unfoldable pub map_byte : Bool → Slots Filter → ℕ → ℕ
map_byte block fs k = packed 8 (λ j. map_bit block fs (k * 8 + j))

-- THE MAP of a kind: the bit of identifier i is bit i modulo 8 of byte i div 8
unfoldable pub map_bytes : Bool → Slots Filter → List ℕ
map_bytes block fs = counted map_size (map_byte block fs)

unfoldable pub bit_in : List ℕ → ℕ → Bool
bit_in map id = bit_at (id % 8) (get_or map (id / 8) 0)

-- the places with those filters that stay in the list
unfoldable pub kept : Option Filter → Option Filter
kept none = none
kept (some f) = if in_map f then none else some f

unfoldable pub others : Slots Filter → Slots Filter
others [] = []
others (x ∷ s) = kept x ∷ others s

-- THE VERDICT BY MAPS. Wide frames use the list alone
unfoldable pub hits_by : List ℕ → Bool → Slots Filter → Bool → ℕ → List ℕ → Bool
hits_by map block fs wide id bytes = (not wide && bit_in map id) || hits block (others fs) wide bytes

unfoldable pub passes_by : List ℕ → List ℕ → Slots Filter → Bool → ℕ → List ℕ → Bool
passes_by passMap blockMap fs wide id bytes = hits_by passMap false fs wide id bytes && not (hits_by blockMap true fs wide id bytes)

-- both maps, pass first
unfoldable pub maps : Slots Filter → List ℕ
maps fs = map_bytes false fs ++ map_bytes true fs
