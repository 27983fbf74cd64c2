-- The heads of those filters that stay in the list beside the maps, as code reads them. Assumes nothing.
use Rattle.std.specs.Prelude.{◌≡◌, ℕ, ◌≤◌, ◌<◌, Bool, List, length, get_or, if◌then◌else◌}
use Rattle.machine.specs.Limits.{most_places}
use Rattle.layout.specs.Sizes.{masks_in}
use Rattle.maps.specs.Chosen.{mapped_at}

-- the type at place f, 0 where a filter of the map is there
unfoldable pub kept_type : List ℕ → ℕ → ℕ
kept_type m f = if mapped_at m f then 0 else get_or m f 0

-- heads with those types; widths and sizes are as they were
pub record OthersOf (m heads : List ℕ) : Type 0 where
  pub long : length heads ≡ masks_in
  pub types : (f : ℕ) → f < most_places → get_or heads f 0 ≡ kept_type m f
  pub rest : (k : ℕ) → most_places ≤ k → k < masks_in → get_or heads k 0 ≡ get_or m k 0

-- a frame that is let in so far can be blocked, another one can pass
unfoldable pub turning_kind : Bool → ℕ
turning_kind passed = if passed then 2 else 1
