-- The sums of the shift report side by side, and what is added to one of them. Assumes nothing.
use Rattle.std.specs.Prelude.{ℕ, ◌+◌, ◌≤◌, ◌≡◌, List, [], ◌∷◌, eqb, length, get_or, set, if◌then◌else◌}
use Rattle.codec.specs.Plain.{zeros}
use Rattle.recording_sizes.specs.Sizes.{longest}
use Rattle.shift_places.specs.Places.{of_channel, of_report}
use Rattle.shift.specs.Report.{of_four}

-- number by number
unfoldable pub plus : List ℕ → List ℕ → List ℕ
plus [] ys = ys
plus (x ∷ xs) [] = x ∷ xs
plus (x ∷ xs) (y ∷ ys) = (x + y) ∷ plus xs ys

-- nothing is added to a channel's numbers; so much to one of them
abbrev pub nothing : List ℕ
nothing = zeros of_channel

unfoldable pub cell : ℕ → ℕ → List ℕ
cell which by = set nothing which by

-- these are added to the numbers of the channel of one line
unfoldable pub on_line : ℕ → List ℕ → List ℕ
on_line line xs = of_four (λ i. if eqb i line then xs else nothing)

-- none is above a bound
abbrev pub Below : ℕ → List ℕ → Type 0
Below bound xs = (k : ℕ) → get_or xs k 0 ≤ bound

-- so much was added to one number of the channel of a line
pub record Added (xs ys : List ℕ) (line which by : ℕ) : Type 0 where
  pub is : ys ≡ plus xs (on_line line (cell which by))
  pub long : length ys ≡ length xs
  pub most : (bound : ℕ) → Below bound xs → Below (bound + by) ys

-- 44 numbers, none above the longest recording's bytes: there is room for what any event adds
pub record Sums (xs : List ℕ) : Type 0 where
  pub long : length xs ≡ of_report
  pub small : Below longest xs
