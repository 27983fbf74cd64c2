-- A filter's data bytes as two numbers of 64 bits, a cube, for frames with one identifier; and what is asked of ten of them. Of the heads the first ten
-- are the types, and ten sizes are behind the width marks. Assumes nothing.
use Rattle.std.specs.Prelude.{ℕ, zero, suc, ◌+◌, ◌-◌, ◌*◌, ◌/◌, ◌%◌, ◌≤◌, ◌<◌, ◌≡◌, Bool, true, false, not, ◌&&◌, ◌||◌, List, [], ◌∷◌, ◌++◌, eqb, leb, length, get_or, if◌then◌else◌}
use Rattle.std.proofs.Math.Option.{Option, none, some}
use Rattle.std.specs.Int.Bits.{bit_and}
use Rattle.machine.specs.Limits.{most_places, least_data, most_data}
use Rattle.machine.specs.Filter.{Slots, Filter, matches}
use Rattle.layout.specs.Sizes.{sizes_in}

-- the number that bytes are, lowest first; n bytes of a number
unfoldable pub value : List ℕ → ℕ
value [] = 0
value (b ∷ d) = value d * 256 + b

unfoldable pub digits : ℕ → ℕ → List ℕ
digits zero x = []
digits (suc n) x = x % 256 ∷ digits n (x / 256)

-- a cube, or the one that holds no number
unfoldable pub mask_word : Bool → ℕ → ℕ
mask_word keep mask = if keep then mask else 0

unfoldable pub pattern_word : Bool → ℕ → ℕ
pattern_word keep pattern = if keep then pattern else 1

-- a place whose filter matches
unfoldable pub met_by : Bool → List ℕ → Option Filter → Bool
met_by wide bytes none = false
met_by wide bytes (some f) = matches wide bytes f

-- the type and the size at a place, and the numbers of its cube
abbrev pub type_at : List ℕ → ℕ → ℕ
type_at heads j = get_or heads j 0

abbrev pub size_at : List ℕ → ℕ → ℕ
size_at heads j = get_or heads (sizes_in + j) 0

abbrev pub In : List ℕ → List ℕ → ℕ → ℕ → Type 0
In ms ps j x = bit_and x (get_or ms j 0) ≡ get_or ps j 0

-- ten places as cubes: for frames of this identifier with the n lowest bytes of x for data
pub record Conds (fs : Slots Filter) (wide : Bool) (id heads ms ps : List ℕ) : Type 0 where
  pub ten : length fs ≡ most_places
  pub small : (j : ℕ) → j < most_places → size_at heads j ≤ most_data
  pub short : (j : ℕ) → j < most_places → size_at heads j ≤ least_data → get_or ms j 0 ≡ 0
  pub kind : (j : ℕ) (f : Filter) → j < most_places → get_or fs j none ≡ some f → f.block ≡ eqb (type_at heads j) 2
  pub met : (j : ℕ) → j < most_places → (n x : ℕ) → met_by wide (id ++ digits n x) (get_or fs j none) ≡ (leb (size_at heads j) (least_data + n) && eqb (bit_and x (get_or ms j 0)) (get_or ps j 0))

-- what is asked for pass filter f: some number of its cube is in no cube of a block filter that is not longer
abbrev pub Clear : List ℕ → List ℕ → List ℕ → ℕ → ℕ → Type 0
Clear heads ms ps f x =
    (g : ℕ) → g < most_places → type_at heads g ≡ 2 → size_at heads g ≤ least_data + (size_at heads f - least_data) → In ms ps g x → ⊥

pub record Passing (heads ms ps : List ℕ) (f : ℕ) (r : Bool) : Type 0 where
  pub some : r ≡ true → (x : ℕ) × In ms ps f x × Clear heads ms ps f x
  pub none : r ≡ false → (x : ℕ) → In ms ps f x → Clear heads ms ps f x → ⊥

-- a pass filter by which no frame passes
abbrev pub Shut : List ℕ → List ℕ → List ℕ → ℕ → Type 0
Shut heads ms ps j = eqb (type_at heads j) 2 ≡ false → (x : ℕ) → In ms ps j x → Clear heads ms ps j x → ⊥

-- a pass filter by which a frame with the data x passes
pub record Passed (heads ms ps : List ℕ) (f : ℕ) : Type 0 where
  pub low : f < most_places
  pub pass : eqb (type_at heads f) 2 ≡ false
  pub x : ℕ
  pub within : In ms ps f x
  pub clear : Clear heads ms ps f x

-- some frame passes, or none does
pub record SomePasses (heads ms ps : List ℕ) (r : Bool) : Type 0 where
  pub some : r ≡ true → (f : ℕ) × Passed heads ms ps f
  pub none : r ≡ false → (j : ℕ) → j < most_places → Shut heads ms ps j

-- block filter g is not longer than the frames of pass filter f's own length
unfoldable pub bars : List ℕ → ℕ → ℕ → Bool
bars heads f g = eqb (type_at heads g) 2 && (leb (size_at heads g) least_data || leb (size_at heads g) (size_at heads f))

-- a block filter that can match; a pass filter that looks at no data
unfoldable pub able_at : List ℕ → List ℕ → List ℕ → ℕ → Bool
able_at heads ms ps j = eqb (type_at heads j) 2 && eqb (bit_and (get_or ps j 0) (get_or ms j 0)) (get_or ps j 0)

unfoldable pub free_at : List ℕ → List ℕ → ℕ → Bool
free_at heads ps j = not (eqb (type_at heads j) 2) && leb (size_at heads j) least_data && eqb (get_or ps j 0) 0

-- the test passes at one of the first n places
unfoldable pub some_below : ℕ → (ℕ → Bool) → Bool
some_below zero p = false
some_below (suc n) p = some_below n p || p n

-- all frames pass
unfoldable pub all_pass : List ℕ → List ℕ → List ℕ → Bool
all_pass heads ms ps = some_below most_places (free_at heads ps) && not (some_below most_places (able_at heads ms ps))
