-- What each event adds, on a valid memory. Assumes nothing.
use Prim.Native.Nat.{ℕ, ◌*◌, min}
use mathlib.Core.Path.{◌≡◌, refl, sym, ap, ◌∙◌}
use mathlib.Core.List.{List}
use lib.Dec.{T}
use Rattle.codec.specs.Plain.{zeros}
use Rattle.recording_sizes.specs.Sizes.{record_on}
use Rattle.machine.specs.Channel.{Call, disconnect, read, sent, clear}
use Rattle.machine.specs.Step.{Event, connect, call, advance, close}
use Rattle.memory.specs.Memory.{valid, load}
use Rattle.events.specs.declared.Giving.{Giving}
use Rattle.events.specs.declared.Giving.TheVariants as giving
use Rattle.events.specs.Found.{giving_of}
use Rattle.shift_places.specs.Places.{at_read, at_cleared, at_dropped}
use Rattle.shift.specs.Numbers.{held_in, another, counted_as}
use Rattle.shift_cells.specs.Sums.{plus, cell, Sums}
use Rattle.shift_counts.specs.Adds.{adds, on_channel, on_each, held_at, echo_adds}
use Rattle.shift_counts.proofs.Blocks.{connect_adds, advance_adds, another_adds, disconnect_adds, clear_adds, other_clear_adds, sent_adds, read_adds, close_adds}
use Rattle.shift_counts.proofs.Lines.{eight_there, nothing_added}

module _ (m : List ℕ) (v : T (valid m)) (rates xs : List ℕ) where
  abbrev Counts : List ℕ → Event → Type 0
  Counts ys e = ys ≡ plus xs (adds rates (load m) e)

  -- those that add something
  module _ (ys : List ℕ) where
    pub counts_disconnect : (k : ℕ) → ys ≡ plus xs (on_channel k (held_at at_dropped) (load m)) → Counts ys (call k disconnect)
    counts_disconnect k e = e ∙ ap (plus xs) (sym (disconnect_adds rates (load m) (eight_there m v) k))

    pub counts_clear : (k j : ℕ) → j ≡ 2 → ys ≡ plus xs (on_channel k (held_at at_cleared) (load m)) → Counts ys (call k (clear j))
    counts_clear k j z e = e ∙ ap (plus xs) (sym (clear_adds rates (load m) (eight_there m v) k j z))

    pub counts_close : ys ≡ plus xs (on_each (held_at at_dropped) (load m)) → Counts ys close
    counts_close e = e ∙ ap (plus xs) (sym (close_adds rates (load m) (eight_there m v)))

    pub counts_sent : (k : ℕ) → ys ≡ plus xs (on_channel k echo_adds (load m)) → Counts ys (call k sent)
    counts_sent k e = e ∙ ap (plus xs) (sym (sent_adds rates (load m) (eight_there m v) k))

    pub counts_read : (k n : ℕ) → ys ≡ plus xs (on_channel k (λ c. cell at_read (min n (held_in c))) (load m)) → Counts ys (call k (read n (zeros (record_on k * n))))
    counts_read k n e = e ∙ ap (plus xs) (sym (read_adds rates (load m) (eight_there m v) k n))

  -- those that add nothing
  module _ (s : Sums xs) where
    pub another_counts : (k : ℕ) (x : Call) → counted_as x ≡ another → Counts xs (call k x)
    another_counts k x e = nothing_added xs s (adds rates (load m) (call k x)) (another_adds rates (load m) (eight_there m v) k x e)

    pub other_clear_counts : (k j : ℕ) → (j ≡ 2 → ⊥) → Counts xs (call k (clear j))
    other_clear_counts k j z = nothing_added xs s (adds rates (load m) (call k (clear j))) (other_clear_adds rates (load m) (eight_there m v) k j z)

    pub advance_counts : (t : ℕ) → Counts xs (advance t)
    advance_counts t = nothing_added xs s (adds rates (load m) (advance t)) (advance_adds rates (load m) (eight_there m v) t)

    pub giving_counts : (r : List ℕ) (g : Giving) → Counts xs (giving_of r g)
    unfolding counted_as
    giving_counts r (giving.Connect l p f q) = nothing_added xs s (adds rates (load m) (connect l p f q)) (connect_adds rates (load m) (eight_there m v) l p f q)
    giving_counts r (giving.StartFilter c k a b e) = another_counts c _ refl
    giving_counts r (giving.StartFlow c k a b f e) = another_counts c _ refl
    giving_counts r (giving.StartPeriodic c f e i) = another_counts c _ refl
    giving_counts r (giving.Get c p) = another_counts c _ refl
