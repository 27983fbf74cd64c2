-- The data bytes of ten filters, as a region holds them, as cubes, for frames of one width with one identifier. Assumes nothing.
use Rattle.std.specs.Prelude.{ℕ, ◌+◌, ◌*◌, Bool, not, ◌&&◌, List, eqb, get_or, take, drop}
use Rattle.std.specs.Bool.{beq}
use Rattle.std.specs.Int.Bits.{bit_and}
use Rattle.machine.specs.Limits.{least_data, most_data}
use Rattle.machine.specs.Message.{id_of}
use Rattle.layout.specs.Sizes.{widths_in, masks_in, patterns_in}
use Rattle.early_rule.specs.Words.{value, mask_word, pattern_word}

-- the row at a place, and its eight data bytes as a number
abbrev pub row_of : List ℕ → ℕ → List ℕ
row_of m at = take most_data (drop at m)

unfoldable pub data_at : List ℕ → ℕ → ℕ
data_at m at = value (drop least_data (row_of m at))

-- where the rows of place f begin
abbrev pub mask_from : ℕ → ℕ
mask_from f = masks_in + f * most_data

abbrev pub pattern_from : ℕ → ℕ
pattern_from f = patterns_in + f * most_data

-- at place f a filter of the frame's width, whose first four bytes are met by the identifier
unfoldable pub kept_at : List ℕ → Bool → ℕ → ℕ → Bool
kept_at m wide id f =
    not (eqb (get_or m f 0) 0)
    && beq wide (eqb 1 (get_or m (widths_in + f) 0))
    && eqb (bit_and id (id_of (drop (mask_from f) m))) (id_of (drop (pattern_from f) m))

-- the cube of place f
unfoldable pub mask_at : List ℕ → Bool → ℕ → ℕ → ℕ
mask_at m wide id f = mask_word (kept_at m wide id f) (data_at m (mask_from f))

unfoldable pub pattern_at : List ℕ → Bool → ℕ → ℕ → ℕ
pattern_at m wide id f = pattern_word (kept_at m wide id f) (data_at m (pattern_from f))
