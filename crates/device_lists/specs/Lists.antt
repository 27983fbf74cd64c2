-- The lent pairs as the machine's, and what stands before any pair of a list. Assumes nothing.
use Rattle.std.specs.Prelude.{ℕ, ◌≤◌, List, [], map, ◌≡◌, length, T, ⊤, Some, Result, Ok, Err}
use Rattle.codes.specs.Code.{number_of, code_of}
use Rattle.codes.specs.declared.Refusal.{Refusal}
use Rattle.machine.specs.Codes.{two_rates}
use Rattle.machine.specs.Limits.{most_pairs}
use Rattle.machine.specs.Channel.{Pairs, flat, get_list, set_list}
use Rattle.machine.specs.Step.{call}
use Rattle.layout.specs.Promise.{gives}
use Rattle.memory.specs.Memory.{valid}
use Rattle.memory.specs.Promise.{outcome}
use Rattle.seats.specs.Seated.{Seated}
use Rattle.seats.specs.declared.Seat.{Seat}
use Rattle.device_lists.specs.declared.Pair.{Pair}

-- a lent pair's two numbers, and a lent list's
abbrev pub told : Pair → ℕ × ℕ
told p = (p.parameter, p.value)

abbrev pub listed : List Pair → Pairs
listed ps = map told ps

-- the pair with this value
abbrev pub valued : Pair → ℕ → Pair
valued p v = record { parameter = p.parameter; value = v }

-- what stands past a list's end
abbrev pub blank : Pair
blank = record { parameter = 0; value = 0 }

-- a list of n pairs is refused with a code before any pair, whatever they are; what that leaves
pub record Kept (m : List ℕ) (k n c : ℕ) (m' : List ℕ) : Type 0 where
  pub set_refused : (ps : Pairs) → length ps ≡ n → gives c 0 [] m' ≡ outcome two_rates m (call k (set_list ps))
  pub get_refused : (ps : Pairs) → length ps ≡ n → gives c 0 (flat ps) m' ≡ outcome two_rates m (call k (get_list ps))

-- or the channel is found open, the pairs are not too many, and nothing has changed
pub record Found (m : List ℕ) (k n : ℕ) (m' : List ℕ) : Type 0 where
  pub good : T (valid m)
  pub seat : Seat
  pub seated : Seated m k (Some seat)
  pub few : n ≤ most_pairs
  pub stays : m' ≡ m

abbrev pub Begun : List ℕ → ℕ → ℕ → Result ⊤ Refusal → List ℕ → Type 0
Begun m k n (Ok done) m' = Found m k n m'
Begun m k n (Err refusal) m' = Kept m k n (number_of refusal) m'

-- what a list promises: of a set what it answers and the memory that it leaves, of a get the list too
abbrev pub SetPost : List ℕ → ℕ → List Pair → Result ⊤ Refusal × List ℕ → Type 0
SetPost m k ps x = gives (code_of x.0) 0 [] x.1 ≡ outcome two_rates m (call k (set_list (listed ps)))

abbrev pub GetPost : List ℕ → ℕ → List Pair → Result ⊤ Refusal × (List ℕ × List Pair) → Type 0
GetPost m k ps x = gives (code_of x.0) 0 (flat (listed x.1.1)) x.1.0 ≡ outcome two_rates m (call k (get_list (listed ps)))
