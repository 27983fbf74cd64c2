-- How many bytes numbers, advances and frames take. Assumes nothing.
use Prim.Native.Nat.{ℕ, ◌+◌, ◌*◌, ◌/◌, ◌%◌, ◌≤◌, ◌<◌}
use mathlib.Core.Path.{◌≡◌, refl, sym, ap}
use mathlib.Core.Logic.{⊎_elim}
use mathlib.Core.Bool.{Bool, true, false}
use mathlib.Core.List.{List}
use native.Mathlib.Omega.{arith}
use lib.ListN.{length}
use Rattle.number.specs.Number.{bytes_of}
use Rattle.number.proofs.Groups.{below}
use Rattle.number.proofs.Laws.{written_short}
use Rattle.machine.specs.Limits.{most_bytes, last_line}
use Rattle.machine.specs.Step.{frame}
use Rattle.candump.specs.Line.{second}
use Rattle.candump.specs.Log.{event_bytes, bytes_all, full, advances}
use Rattle.candump.proofs.Cost.{cost, cost_zero, cost_some, price_is, one_byte}
use Rattle.candump.proofs.Sizes.{frame_size}
use Rattle.log_events.specs.Data.{mark_of}

-- ---- the advances of a difference of time

module _ (n : ℕ) where
  pub whole_seconds : n % second < 1 → 4 * (n / second) ≡ length (bytes_all (advances n))
  whole_seconds h =
      let z : n % full ≡ 0 = omega arith in
      omega (arith, price_is n, ap cost z, cost_zero)

  pub and_a_rest : 1 ≤ n % second → (size : ℕ) → size ≡ length (bytes_of (n % second)) → 4 * (n / second) + 1 + size ≡ length (bytes_all (advances n))
  and_a_rest h size e = omega (arith, price_is n, cost_some (n % full) (omega arith))

-- ---- a frame

mark_small : (wide : Bool) → mark_of wide < 128
mark_small true = omega arith
mark_small false = omega arith

pub frame_is : (line : ℕ) (wide : Bool) (id : ℕ) (b : List ℕ) → line ≤ last_line → length b ≤ most_bytes
    → length (event_bytes (frame line (mark_of wide) id b)) ≡ 4 + length (bytes_of id) + length b
frame_is line wide id b h k =
    omega (arith, frame_size line (mark_of wide) id b, one_byte line (omega arith), one_byte (mark_of wide) (mark_small wide), one_byte (length b) (omega arith))

-- the most that the advances of a difference take
pub advances_most : (n : ℕ) → length (bytes_all (advances n)) ≤ 4 * (n / second) + 6
advances_most n = ⊎_elim (λ (h : n % full < 1). omega (arith, sym (whole_seconds n h))) (λ (h : 1 ≤ n % full). omega (arith, sym (and_a_rest n h _ refl), (written_short (n % second)).1)) (below (n % full) 1)
