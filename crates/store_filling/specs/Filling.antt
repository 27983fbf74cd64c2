-- Parts of a store that are known to read, on a connection of some flags, and what is written of them. Assumes nothing.
use Rattle.std.specs.Prelude.{ℕ, ◌≡◌, List, T, length}
use Rattle.std.proofs.Math.Option.{some}
use Rattle.codec.specs.Code.{Code}
use Rattle.number.specs.Reads.{Reads, number}
use Rattle.machine.specs.Filter.{Slots}

-- a value and a place are those of the number that reads there
abbrev pub NumberThere : List ℕ → ℕ → ℕ → ℕ → Type 0
NumberThere s at value next = (v n : ℕ) → number s at ≡ some (v, n) → (value ≡ v) × (next ≡ n)

-- a part reads there
pub record There {A : Type 0} (p : ℕ → Reads A) (s : List ℕ) (at : ℕ) : Type 0 where
  pub flags : ℕ
  pub what : A
  pub next : ℕ
  pub read : p flags s at ≡ some (what, next)

-- an entry reads there, and such places for entries are lent
pub record Room {A B : Type 0} (p : ℕ → Reads A) (d : ℕ → Code (Slots B)) (m s : List ℕ) (at : ℕ) : Type 0 where
  pub entry : There p s at
  pub long : length m ≡ (d entry.flags).size
  pub valid : T ((d entry.flags).valid m)

-- what reads there is written: r is the place after it, and the bytes are those that it makes of them
abbrev pub Gives : {A : Type 0} → (ℕ → Reads A) → List ℕ → ℕ → ℕ → List ℕ → (ℕ → A → List ℕ) → Type 0
Gives {A} p s at r m made = (flags : ℕ) (a : A) (next : ℕ) → p flags s at ≡ some (a, next) → (r ≡ next) × (m ≡ made flags a)
