-- Which of the ten filters that a region holds are of a map, as code reads them. Assumes nothing.
use Rattle.std.specs.Prelude.{ℕ, ◌+◌, ◌*◌, Bool, not, ◌&&◌, List, eqb, leb, get_or}
use Rattle.std.specs.Bool.{beq}
use Rattle.codec.specs.Plain.{all_below}
use Rattle.machine.specs.Limits.{most_places, least_data, most_data}
use Rattle.layout.specs.Sizes.{widths_in, sizes_in, masks_in, patterns_in}

-- where the rows of place f begin
abbrev pub mask_from : ℕ → ℕ
mask_from f = masks_in + f * most_data

abbrev pub pattern_from : ℕ → ℕ
pattern_from f = patterns_in + f * most_data

-- at place f a filter of the map
unfoldable pub mapped_at : List ℕ → ℕ → Bool
mapped_at m f = not (eqb (get_or m f 0) 0) && not (eqb 1 (get_or m (widths_in + f) 0)) && leb (get_or m (sizes_in + f) 0) least_data

unfoldable pub none_mapped : List ℕ → Bool
none_mapped m = all_below most_places (λ f. not (mapped_at m f))

-- of a kind, whose first two bytes are met by an identifier of eleven bits: both are 0 there
unfoldable pub chosen_at : List ℕ → Bool → ℕ → Bool
chosen_at m block f =
    mapped_at m f && beq (eqb (get_or m f 0) 2) block && (eqb 0 (get_or m (pattern_from f) 0) && eqb 0 (get_or m (pattern_from f + 1) 0))
