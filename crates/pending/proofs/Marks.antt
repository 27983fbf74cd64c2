-- The pending marks: the first that is set, and one cleared. Assumes nothing.
use mathlib.Core.Path.{◌≡◌, refl, sym, ap, ◌∙◌}
use Prim.Native.Nat.{ℕ, ◌+◌, ◌≤◌, ◌<◌}
use native.Mathlib.Omega.{arith}
use mathlib.Core.Bool.{false}
use mathlib.Core.Option.{Option, none, some}
use mathlib.Core.List.{List}
use lib.Dec.{eqb}
use lib.ListN.{get_or, set}
use borrow.Author.Tests.{eq-eqb, ne_eqb}
use Rattle.codec.specs.Code.{byte, via, such, mark}
use Rattle.codec.proofs.Lawful.{mark_lawful, mark_ok}
use Rattle.codec.proofs.Cells.{byte_stored}
use Rattle.machine.specs.Filter.{Slots}
use Rattle.machine.specs.Channel.{Periodic, calm}
use Rattle.machine.specs.Limits.{most_places}
use Rattle.layout.specs.Sizes.{pending_in}
use Rattle.layout.specs.Memory.{periodic_parts, periodics}
use Rattle.stores.specs.Periodics.{PeriodicPart, changed}
use Rattle.pending.specs.Pending.{is_pending, first_pending, calm_slot}
use Rattle.stores.proofs.Periodics.{marks_cell, any_get, held, ten_held, held_at, here, mark_at, row_before, row_changed}
use Rattle.pending.proofs.Next.{first_is}

parts_pending : (x : Option Periodic) → (periodic_parts x).1.1.0 ≡ is_pending x
unfolding is_pending
parts_pending none = refl
parts_pending (some p) = refl

calm_row : (x : Option Periodic) → ((periodic_parts x).0, ((periodic_parts x).1.0, (false, (periodic_parts x).1.1.1))) ≡ periodic_parts (calm_slot x)
unfolding calm_slot calm
calm_row none = refl
calm_row (some p) = refl

pub changed_calm : (ps : Slots Periodic) (i : ℕ) (p : Periodic) → get_or ps i none ≡ some p → changed calm_slot i ps ≡ set ps i (some (calm p))
unfolding changed calm_slot
changed_calm ps i p e = ap (λ (x : Option Periodic). set ps i (calm_slot x)) e

-- ---- in the part of a region that holds the periodics

module _ (m : List ℕ) (v : PeriodicPart m) where
  pending_at : (i : ℕ) (h : i < most_places) → eqb 1 (get_or m (pending_in + i) 0) ≡ is_pending (held_at m v i h)
  pending_at i h = mark_at m v i h ∙ parts_pending (held_at m v i h)

  pub calmed : (i : ℕ) → i < most_places → (flags : ℕ) → set m (pending_in + i) 0 ≡ (periodics flags).put (changed calm_slot i ((periodics flags).get m))
  unfolding mark via such byte
  calmed i h flags =
      row_changed m v i h calm_slot flags (calm_row (held_at m v i h)) (byte_stored (marks_cell v.flags) mark_lawful (row_before m v i h) (here m v i h) false (mark_ok false) (pending_in + i) 0 (omega arith) refl (omega (arith, v.long)) refl)

  -- the first pending place, found by its mark
  pub found_pending : (i : ℕ) → i ≤ most_places → ((k : ℕ) → k < i → get_or m (pending_in + k) 0 ≡ 1 → ⊥) → (i < most_places → get_or m (pending_in + i) 0 ≡ 1) → (flags : ℕ) → i ≡ first_pending ((periodics flags).get m)
  found_pending i h below this flags =
      first_is (held m v) i (omega (arith, ten_held m v))
      (λ k l. sym (pending_at k (omega arith)) ∙ ne_eqb 1 (get_or m (pending_in + k) 0) (λ e. below k l (sym e)))
      (λ l. let j : i < most_places = omega (arith, ten_held m v) in sym (pending_at i j) ∙ eq-eqb 1 (get_or m (pending_in + i) 0) (sym (this j)))
      ∙ ap first_pending (any_get v.flags flags m)
