-- The ten filters of their columns, as the verdict reads them. Assumes nothing.
use Rattle.std.specs.Prelude.{◌≡◌, ℕ, zero, suc, ◌+◌, ◌*◌, ◌≤◌, ◌<◌, Bool, true, false, not, ◌&&◌, ◌||◌, List, [], ◌∷◌, ◌++◌, eqb, length, get_or, take, drop}
use Rattle.std.proofs.Math.Option.{Option}
use Rattle.codec.specs.Plain.{all_below}
use Rattle.machine.specs.Limits.{most_places, most_data}
use Rattle.machine.specs.Filter.{Slots, Filter, hits}
use Rattle.layout.specs.Sizes.{widths_in, sizes_in, masks_in}
use Rattle.layout.specs.Memory.{filter_back}

-- the values at 0 to n - 1
unfoldable pub listed : {A : Type 0} → ℕ → (ℕ → A) → List A
listed zero at = []
listed (suc n) at = listed n at ++ (at n ∷ [])

-- ten types, ten width marks and ten sizes, within their limits
pub record Heads (heads : List ℕ) : Type 0 where
  pub long : length heads ≡ masks_in
  pub kinds : (f : ℕ) → f < most_places → get_or heads f 0 ≤ 2
  pub sizes : (f : ℕ) → f < most_places → get_or heads (sizes_in + f) 0 ≤ most_data

-- the places from a place on are empty
abbrev pub EmptyFrom : List ℕ → ℕ → Type 0
EmptyFrom heads end = (f : ℕ) → end ≤ f → f < most_places → get_or heads f 0 ≡ 0

-- none of the ten places has a filter of this type
unfoldable pub none_of : List ℕ → ℕ → Bool
none_of heads kind = all_below most_places (λ f. not (eqb (get_or heads f 0) kind))

-- ten rows of twelve bytes, one after the other from a place on
unfoldable pub ten_rows : ℕ → List ℕ → List (List ℕ)
ten_rows at m = listed most_places (λ f. take most_data (drop (at + f * most_data) m))

-- place f: its type, its width mark and its size are among the ten of each, its rows among the ten of each
unfoldable pub filter_at : List ℕ → List (List ℕ) → List (List ℕ) → ℕ → Option Filter
filter_at heads masks patterns f =
    filter_back (get_or heads f 0, (eqb 1 (get_or heads (widths_in + f) 0), (get_or heads (sizes_in + f) 0, (get_or masks f [], get_or patterns f []))))

-- the ten filters of ten types, ten width marks and ten sizes, and of ten mask rows and ten pattern rows
unfoldable pub filters_in : List ℕ → List (List ℕ) → List (List ℕ) → Slots Filter
filters_in heads masks patterns = listed most_places (filter_at heads masks patterns)

-- the verdict of these filters, where `passed` says that a pass filter besides them matches
unfoldable pub passes_with : Bool → Slots Filter → Bool → List ℕ → Bool
passes_with passed fs wide bytes = (passed || hits false fs wide bytes) && not (hits true fs wide bytes)
