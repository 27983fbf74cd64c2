use Prim.Native.Nat.{ℕ, ◌+◌, ◌*◌, ◌≤◌, ◌<◌}
use mathlib.Core.Path.{◌≡◌}
use Rattle.machine.specs.Limits.{most_places}
use Rattle.store_sizes.proofs.sum.Given as goal

abbrev pub invariant-loop-i : goal.invariant-loop-i
invariant-loop-i g l =
    (l.sum ≤ 100 * l.i)
    × ((left : ℕ → ℕ) → ((i x : ℕ) → i < most_places → goal.F-post g l.of i x → left i ≡ x + left (i + 1)) → left 0 ≡ l.sum + left l.i)
