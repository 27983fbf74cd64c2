-- The region of an open channel when what went in flight is freed. Assumes nothing.
use mathlib.Core.Path.{◌≡◌, refl, sym, ap, ◌∙◌}
use Prim.Native.Nat.{ℕ, ◌≤◌, ◌<◌}
use native.Mathlib.Omega.{arith}
use mathlib.Core.Bool.{Bool, true, false}
use mathlib.Core.List.{List}
use lib.ListN.{length, get_or, take, drop}
use lib.Dec.{T}
use borrow.Author.Tests.{lt-ltb, le-ltb}
use borrow.Rule.Slice.PartMut.{put_mid}
use Rattle.codec.proofs.Many.{up_to_count}
use Rattle.machine.specs.Message.{Rec}
use Rattle.machine.specs.Filter.{Slots}
use Rattle.machine.specs.Channel.{Chan, Open, Periodic}
use Rattle.machine.specs.Limits.{most_places, most_written}
use Rattle.layout.specs.Sizes.{written_at, periodics_at, periodics_size, written_size}
use Rattle.layout.specs.Record.{out_cell}
use Rattle.layout.specs.Memory.{periodics, region}
use Rattle.layout.specs.Promise.{Opened}
use Rattle.layout.proofs.Good.{fl}
use Rattle.layout.proofs.Region.{open_of, is_open, kept, periodics_part, written_part}
use Rattle.stores.specs.Periodics.{changed}
use Rattle.stores.specs.Written.{written}
use Rattle.stores.proofs.Periodics.{lent_held}
use Rattle.stores.proofs.Written.{written_count, in_part}
use Rattle.stores.proofs.Flight.{good}
use Rattle.pending.specs.Pending.{calm_slot}
use Rattle.choosing.specs.Choice.{freed}

module _ {r : List ℕ} (f : Opened r) where
  abbrev o : Open
  o = open_of r

  pub oldest_lent : 0 < get_or r written_at 0 → (length (take written_size (drop written_at r)) ≡ written_size) × (0 < get_or (take written_size (drop written_at r)) 0 0) × (get_or (take written_size (drop written_at r)) 0 0 ≤ most_written)
  oldest_lent h = ((written_part r f).long, omega (arith, in_part f), omega (arith, in_part f, written_count f, up_to_count most_written (out_cell (fl o)) o.sending.written (good f).written_ok))

  pub none_freed : {i : ℕ} {there : Bool} → most_places ≤ i → there ≡ true → r ≡ region.put (freed i there (region.get r))
  unfolding freed
  none_freed {i} {there} h e =
      sym (kept r f)
      ∙ sym (ap (λ (c : Chan). region.put (freed i there c)) (is_open r f) ∙ rw (le-ltb i most_places h) (rw e refl))

  module _ {i : ℕ} {ys : List ℕ} where
    pub periodic_freed : (there : Bool) → i < most_places → ((k : ℕ) → ys ≡ (periodics k).put (changed calm_slot i ((periodics k).get (take periodics_size (drop periodics_at r))))) → put_mid periodics_at periodics_size r ys ≡ region.put (freed i there (region.get r))
    unfolding freed
    periodic_freed there h e =
        (periodics_part r f).becomes ys (changed calm_slot i o.sending.periodics) (e (fl o) ∙ ap (λ (x : Slots Periodic). (periodics (fl o)).put (changed calm_slot i x)) (lent_held r f))
        ∙ sym (ap (λ (c : Chan). region.put (freed i there c)) (is_open r f) ∙ rw (lt-ltb i most_places h) refl)

    pub written_freed : {there : Bool} → most_places ≤ i → there ≡ false → ((k : ℕ) → T ((written k).valid (take written_size (drop written_at r))) → ys ≡ (written k).put (drop 1 ((written k).get (take written_size (drop written_at r))))) → put_mid written_at written_size r ys ≡ region.put (freed i there (region.get r))
    unfolding freed
    written_freed {there} h q e =
        (written_part r f).becomes ys (drop 1 o.sending.written) (e (fl o) (written_part r f).valid ∙ ap (λ (x : List Rec). (written (fl o)).put (drop 1 x)) (written_part r f).got)
        ∙ sym (ap (λ (c : Chan). region.put (freed i there c)) (is_open r f) ∙ rw (le-ltb i most_places h) (rw q refl))
