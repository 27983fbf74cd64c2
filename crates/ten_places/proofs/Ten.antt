-- Ten places of either kind, filters or periodics: place by place, and where there is none. Assumes nothing.
use mathlib.Core.Path.{◌≡◌, refl}
use Prim.Native.Nat.{ℕ, ◌<◌}
use native.Mathlib.Omega.{arith}
use mathlib.Core.Bool.{Bool, true, false}
use mathlib.Core.List.{List}
use lib.ListN.{length}
use Rattle.codec.specs.Plain.{all_zero, all_below}
use Rattle.codec.specs.Word.{word}
use Rattle.codec.specs.Code.{byte, word32, both, via, such, mark, many, vacant, beside, each_via}
use Rattle.machine.specs.Limits.{most_places}
use Rattle.layout.specs.Sizes.{filters_size, periodics_size}
use Rattle.machine.specs.Filter.{none_yet}
use Rattle.layout.specs.Record.{row, body, rec36, out_cell}
use Rattle.layout.specs.Memory.{filter_fits, filter_columns, filters, periodic_fits, periodic_columns, periodics}
use Rattle.layout.proofs.Memory.{filters_lawful, periodics_lawful}
use Rattle.ten_places.specs.Place.{places_size, places_valid, place_good}
use Rattle.stored_records.proofs.Parts.{Bytes, zeros_good}
use Rattle.ten_places.proofs.Filters.{filters_flat}
use Rattle.ten_places.proofs.Periodics.{periodics_flat}

pub places_flat : (timed : Bool) (flags : ℕ) (m : List ℕ) → length m ≡ places_size timed → Bytes m → all_below most_places (λ i. place_good timed flags i m) ≡ places_valid timed flags m
unfolding places_size places_valid place_good
places_flat true flags m h t = periodics_flat flags m t
places_flat false flags m h t = filters_flat flags m h t

-- ten empty places are zeros
pub places_none : (timed : Bool) (flags : ℕ) (m : List ℕ) → length m ≡ places_size timed → all_zero m ≡ true → true ≡ places_valid timed flags m
unfolding places_size places_valid filters filter_columns filter_fits periodics periodic_columns periodic_fits each_via beside via such both many vacant out_cell rec36 body row word32 word mark byte none_yet
places_none true flags m h z = zeros_good (periodics_lawful flags) none_yet periodics_size m tt refl h z
places_none false flags m h z = zeros_good (filters_lawful flags) none_yet filters_size m tt refl h z

-- they take some bytes
pub places_some : (timed : Bool) (n : ℕ) → n ≡ places_size timed → 0 < n
unfolding places_size
places_some true n e = omega arith
places_some false n e = omega arith
