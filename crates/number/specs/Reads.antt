-- Reading parts of a list of bytes, one behind the other: of an event, of a saved set-up. Assumes nothing.
use Rattle.std.specs.Prelude.{ℕ, ◌+◌, Bool, List, leb, length, take, drop, if◌then◌else◌}
use Rattle.std.proofs.Math.Option.{Option, none, some, map, bind}
use Rattle.number.specs.Number.{number_in}

-- what is read at a place of a recording: a value, and the place after its bytes; none where it is bad
abbrev pub Reads : Type 0 → Type 0
Reads A = (recording : List ℕ) (at : ℕ) → Option (A × ℕ)

-- one part, then the next, which may depend on it
infixl 20 ◌>>=◌
unfoldable pub ◌>>=◌ : {A B : Type 0} → Reads A → (A → Reads B) → Reads B
◌>>=◌ p q recording at = bind (p recording at) (λ r. q r.0 recording r.1)

-- nothing more is read
unfoldable pub done : {A : Type 0} → A → Reads A
done a recording at = some (a, at)

-- bad, whatever stands there
unfoldable pub bad : {A : Type 0} → Reads A
bad recording at = none

-- a number
unfoldable pub number : Reads ℕ
number recording at = map (λ f. (f.value, at + f.size)) (number_in (drop at recording))

-- so many raw bytes
unfoldable pub bytes : ℕ → Reads (List ℕ)
bytes size recording at =
    if leb (at + size) (length recording) then some (take size (drop at recording), at + size) else none

-- a value, where a test passes
unfoldable pub where_true : {A : Type 0} → Bool → A → Reads A
where_true t a = if t then done a else bad

-- only what passes a test
unfoldable pub only : {A : Type 0} → (A → Bool) → Reads A → Reads A
only t p = p >>= λ a. where_true (t a) a
