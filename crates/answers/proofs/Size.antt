-- How many bytes a number takes. Assumes nothing.
use Prim.Native.Nat.{ℕ, suc, ◌+◌, ◌/◌, ◌≤◌, ◌<◌}
use mathlib.Core.Path.{◌≡◌, ap, ◌∙◌}
use native.Mathlib.Omega.{arith}
use lib.ListN.{length}
use Rattle.number.specs.Number.{largest, groups, bytes_of}
use Rattle.number.proofs.Laws.{groups_one, groups_more}

more_size : (k v : ℕ) → 128 ≤ v → length (groups (suc k) v) ≡ 1 + length (groups k (v / 128))
more_size k v h = ap length (groups_more k v h) ∙ omega arith

one_size : (k v : ℕ) → v < 128 → length (groups (suc k) v) ≡ 1
one_size k v h = ap length (groups_one k v h)

module _ (v : ℕ) where
  pub one_byte : v < 128 → length (bytes_of v) ≡ 1
  unfolding bytes_of
  one_byte h = one_size 4 v h

  pub two_bytes : 128 ≤ v → v < 16384 → length (bytes_of v) ≡ 2
  unfolding bytes_of
  two_bytes h k = omega (arith, more_size 4 v (omega arith), one_size 3 (v / 128) (omega arith))

  pub three_bytes : 16384 ≤ v → v < 2097152 → length (bytes_of v) ≡ 3
  unfolding bytes_of
  three_bytes h k =
      omega (arith, more_size 4 v (omega arith), more_size 3 (v / 128) (omega arith), one_size 2 (v / 128 / 128) (omega arith))

  pub four_bytes : 2097152 ≤ v → v < 268435456 → length (bytes_of v) ≡ 4
  unfolding bytes_of
  four_bytes h k =
      omega (arith, more_size 4 v (omega arith), more_size 3 (v / 128) (omega arith), more_size 2 (v / 128 / 128) (omega arith), one_size 1 (v / 128 / 128 / 128) (omega arith))

  pub five_bytes : 268435456 ≤ v → v ≤ largest → length (bytes_of v) ≡ 5
  unfolding bytes_of
  five_bytes h k =
      omega (
        arith,
        more_size 4 v (omega arith),
        more_size 3 (v / 128) (omega arith),
        more_size 2 (v / 128 / 128) (omega arith),
        more_size 1 (v / 128 / 128 / 128) (omega arith),
        one_size 0 (v / 128 / 128 / 128 / 128) (omega arith),
      )
