-- The bytes of one filter in a map. Of an identifier's eleven bits the upper three are the number of its band, the next five that of its byte in the
-- band, the last three that of its bit. Assumes nothing.
use Rattle.std.specs.Prelude.{ℕ, ◌/◌, ◌%◌, List, eqb, get_or, if◌then◌else◌}
use Rattle.std.specs.Int.Bits.{bit_and, bit_or}
use Rattle.map_rule.specs.Map.{map_size, packed, counted}

-- the bytes of a band
abbrev pub band_size : ℕ
band_size = 32

-- which of the eight values of three bits fit a mask and a pattern
unfoldable pub eight : ℕ → ℕ → ℕ
eight m p = packed 8 (λ j. eqb (bit_and j m) p)

-- a byte of a band: the eight bits, where its five bits fit
unfoldable pub band_byte : ℕ → ℕ → ℕ → ℕ → ℕ
band_byte m p inner l = if eqb (bit_and l m) p then inner else 0

-- byte l of the band of a mask and a pattern of the low byte
unfoldable pub band_at : ℕ → ℕ → ℕ → ℕ
band_at mask pattern l = band_byte (mask / 8) (pattern / 8) (eight (mask % 8) (pattern % 8)) l

unfoldable pub band_of : ℕ → ℕ → List ℕ
band_of mask pattern = counted band_size (band_at mask pattern)

-- a band put into another
unfoldable pub or_bytes : List ℕ → List ℕ → List ℕ
or_bytes d band = counted band_size (λ l. bit_or (get_or d l 0) (get_or band l 0))

-- byte k of a filter in a map, by the last two bytes of its mask and of its pattern
unfoldable pub byte_for : ℕ → ℕ → ℕ → ℕ → ℕ → ℕ
byte_for highMask high lowMask low k = if eqb (bit_and (k / band_size) highMask) high then band_at lowMask low (k % band_size) else 0

-- a map with one filter's bytes more
unfoldable pub joined : List ℕ → ℕ → ℕ → ℕ → ℕ → List ℕ
joined map highMask high lowMask low = counted map_size (λ k. bit_or (get_or map k 0) (byte_for highMask high lowMask low k))
