-- Request P9, decided on the identifier alone: what the filters' verdict is for every data of 0 to 8 bytes. The definition tries them all; no code
-- does. Assumes nothing.
use Rattle.std.specs.Prelude.{ℕ, zero, suc, ◌≤◌, ◌≡◌, Bool, true, false, not, List, [], ◌∷◌, ◌++◌, T, length, if◌then◌else◌}
use Rattle.codec.specs.Plain.{all, is_byte, all_below}
use Rattle.machine.specs.Filter.{Slots, Filter, passes}

-- the test passes for every data of n bytes
unfoldable pub all_data : ℕ → (List ℕ → Bool) → Bool
all_data zero p = p []
all_data (suc n) p = all_below 256 (λ b. all_data n (λ d. p (b ∷ d)))

-- the test passes for every data of 0 to 8 bytes
unfoldable pub every_data : (List ℕ → Bool) → Bool
every_data p = all_below 9 (λ n. all_data n p)

-- dropped, whatever the data; passes, whatever the data; the data must be seen
pub data Early : Type 0 where
  drops : Early
  passes_all : Early
  must_see : Early

-- THE ANSWER on the four bytes of an identifier
unfoldable pub early : Slots Filter → Bool → List ℕ → Early
early fs wide id =
    if every_data (λ d. passes fs wide (id ++ d)) then passes_all
    else if every_data (λ d. not (passes fs wide (id ++ d))) then drops
    else must_see

-- where it crosses as a number
unfoldable pub early_number : Early → ℕ
early_number drops = 0
early_number passes_all = 1
early_number must_see = 2

-- data that a frame can have
pub record Data (d : List ℕ) : Type 0 where
  pub short : length d ≤ 8
  pub bytes : T (all is_byte d)

-- THE REQUEST'S WORDS. The first two answers are the verdict for all data, the third is given exactly if two data get different verdicts
pub record Exactly (answer : Early) (verdict : List ℕ → Bool) : Type 0 where
  pub passing : answer ≡ passes_all → (d : List ℕ) → Data d → verdict d ≡ true
  pub dropping : answer ≡ drops → (d : List ℕ) → Data d → verdict d ≡ false
  pub differing : answer ≡ must_see → (d : List ℕ) × (e : List ℕ) × Data d × Data e × (verdict d ≡ true) × (verdict e ≡ false)
  pub only : (d e : List ℕ) → Data d → Data e → (verdict d ≡ verdict e → ⊥) → answer ≡ must_see
