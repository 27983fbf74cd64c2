-- The telegrams of a message and of a block by the number of bytes. Assumes nothing.
use Rattle.std.specs.Prelude.{if◌then◌else◌}
use mathlib.Core.Path.{◌≡◌, refl, sym, ap}
use Prim.Native.Nat.{ℕ, ◌+◌, ◌*◌, ◌/◌, ◌%◌, ◌≤◌, ◌<◌}
use native.Mathlib.Omega.{arith}
use mathlib.Core.Bool.{Bool, true, false}
use mathlib.Core.List.{List, [], ◌∷◌}
use lib.ListN.{length, get_or}
use lib.Dec.{eqb}
use borrow.Author.Tests.{eqb-true, eqb-false}
use Rattle.link.specs.Connection.{micros, telegrams, block_of}
use Rattle.telegram.specs.Telegram.{time_of}

-- no bytes are one telegram, which is empty
pub of_none : (rest : List ℕ) → length rest ≡ 0 → 1 ≡ telegrams rest
unfolding telegrams
of_none rest e = go (eqb (length rest) 0) refl
  where
    go : (b : Bool) → eqb (length rest) 0 ≡ b → 1 ≡ (if b then 1 else (length rest + 6) / 7)
    go true q = refl
    go false q = absurd (eqb-false (length rest) 0 q e)

pub of_some : (n : ℕ) (rest : List ℕ) → 0 < n → length rest ≡ n → (n + 6) / 7 ≡ telegrams rest
unfolding telegrams
of_some n rest h e = go (eqb (length rest) 0) refl
  where
    go : (b : Bool) → eqb (length rest) 0 ≡ b → (n + 6) / 7 ≡ (if b then 1 else (length rest + 6) / 7)
    go true q = let z = eqb-true (length rest) 0 q in absurd (omega arith)
    go false q = omega arith

-- the smaller of the two
pub whole_block : (size n : ℕ) (rest : List ℕ) → n ≡ telegrams rest → size < n → size ≡ block_of size rest
unfolding block_of
whole_block size n rest e h = omega arith

pub last_block : (size n : ℕ) (rest : List ℕ) → n ≡ telegrams rest → n ≤ size → n ≡ block_of size rest
unfolding block_of
last_block size n rest e h = omega arith

-- a time byte of a unit, by its high two bits
pub in_unit : (b k : ℕ) → b / 64 ≡ k → 100 * (get_or (1 ∷ 10 ∷ 100 ∷ 1000 ∷ []) k 0 * (b % 64)) ≡ micros b
unfolding micros time_of
in_unit b k e = ap (λ (j : ℕ). 100 * (get_or (1 ∷ 10 ∷ 100 ∷ 1000 ∷ []) j 0 * (b % 64))) (sym e)
