-- What the functions that decide validity say of ten filters and of ten periodics, place by place. Assumes nothing.
use Rattle.std.specs.Prelude.{ℕ, ◌+◌, ◌*◌, Bool, ◌&&◌, List, get_or, take, drop, eqb, leb, if◌then◌else◌}
use Rattle.codec.specs.Word.{word_at}
use Rattle.codec.specs.Code.{vacant}
use Rattle.machine.specs.Limits.{record_size, most_data}
use Rattle.layout.specs.Sizes.{number_size, widths_in, sizes_in, masks_in, patterns_in, filters_size, phases_in, pending_in, messages_in, periodics_size}
use Rattle.layout.specs.Record.{out_cell}
use Rattle.layout.specs.Memory.{FilterRow, filter_fits, filters, PeriodicRow, periodic_fits, periodics}

-- filter i, taken from the columns of ten filters
unfoldable pub filter_at : ℕ → List ℕ → FilterRow
filter_at i m =
    (get_or m i 0, (eqb 1 (get_or m (widths_in + i) 0), (get_or m (sizes_in + i) 0, (take most_data (drop (masks_in + i * most_data) m), take most_data (drop (patterns_in + i * most_data) m)))))

-- its width mark is a mark, and it fits
unfoldable pub filter_good : ℕ → ℕ → List ℕ → Bool
filter_good flags i m = leb (get_or m (widths_in + i) 0) 1 && filter_fits flags (filter_at i m)

-- the 36 bytes of periodic i
unfoldable pub record_at : ℕ → List ℕ → List ℕ
record_at i m = take record_size (drop (messages_in + i * record_size) m)

-- periodic i, taken from the columns of ten periodics
unfoldable pub periodic_at : ℕ → ℕ → List ℕ → PeriodicRow
periodic_at flags i m =
    (word_at (i * number_size) m, (word_at (phases_in + i * number_size) m, (eqb 1 (get_or m (pending_in + i) 0), (vacant (out_cell flags)).get (record_at i m))))

-- its pending mark is a mark, its record is one or zeros, and it fits
unfoldable pub periodic_good : ℕ → ℕ → List ℕ → Bool
periodic_good flags i m =
    leb (get_or m (pending_in + i) 0) 1 && (vacant (out_cell flags)).valid (record_at i m) && periodic_fits (periodic_at flags i m)

-- ten periodics, or ten filters: how many bytes they take, which bytes are valid, and what place i of them must be
unfoldable pub places_size : Bool → ℕ
places_size timed = if timed then periodics_size else filters_size

unfoldable pub places_valid : Bool → ℕ → List ℕ → Bool
places_valid timed flags m = if timed then (periodics flags).valid m else (filters flags).valid m

unfoldable pub place_good : Bool → ℕ → ℕ → List ℕ → Bool
place_good timed flags i m = if timed then periodic_good flags i m else filter_good flags i m
