-- What the region of a raw channel says of what it holds. Assumes nothing.
use mathlib.Core.Path.{◌≡◌, refl, sym, ap, ◌∙◌}
use Prim.Native.Nat.{ℕ, ◌≤◌}
use native.Mathlib.Omega.{arith}
use mathlib.Core.Bool.{Bool, true, false, not, ◌&&◌}
use mathlib.Core.List.{List}
use lib.ListN.{length, get_or, take, drop}
use lib.Seq.{get_or-take, get_or-drop}
use lib.Dec.{T, eqb}
use Rattle.codec.specs.Code.{slot, via, get_slot, mark_of}
use Rattle.codec.proofs.Tests.{T_true, and_false}
use Rattle.machine.specs.Limits.{most_to_read}
use Rattle.machine.specs.Filter.{taken}
use Rattle.machine.specs.Channel.{closed, listens, Open}
use Rattle.machine.specs.Demands.{queue_of}
use Rattle.layout.specs.Sizes.{region_size, receiving_at, receiving_size, flight_at, loopback_at}
use Rattle.layout.specs.Memory.{chan_back, open_part, region}
use Rattle.layout.specs.Promise.{Opened}
use Rattle.layout.proofs.Held.{out_sound}
use Rattle.layout.proofs.Region.{open_of, is_open, mark_of_law, loopback_part}
use Rattle.queue.proofs.Bytes.{count_few}
use Rattle.queue.proofs.Laws.{part, fine, held}
use Rattle.stores.proofs.Flight.{none_flies, flies}
use Rattle.box_frames.proofs.Laws.{not_closed}
use Rattle.shift.specs.Numbers.{held_in, open_and}
use Rattle.shift_looks.specs.Looks.{would_echo}

-- a mark by its byte
mark_shows : (b : Bool) → not (eqb (mark_of b) 0) ≡ b
mark_shows true = refl
mark_shows false = refl

module _ (r : List ℕ) (long : length r ≡ region_size) (v : T (region.valid r)) where
  pub is_closed : get_or r 0 0 ≡ 0 → region.get r ≡ closed
  unfolding region via slot
  is_closed z = ap (λ (k : ℕ). chan_back (get_slot open_part k (drop 1 r))) z

  pub open_there : (get_or r 0 0 ≡ 0 → ⊥) → Opened r
  open_there n = not_closed r long v n

  -- ---- the records held for reading

  pub none_held : get_or r 0 0 ≡ 0 → 0 ≡ held_in (region.get r)
  unfolding held_in queue_of
  none_held z = sym (ap held_in (is_closed z))

  module _ (n : get_or r 0 0 ≡ 0 → ⊥) where
    count_there : get_or (take receiving_size (drop receiving_at r)) 0 0 ≡ get_or r receiving_at 0
    count_there = get_or-take receiving_size (drop receiving_at r) 0 0 (omega arith) ∙ get_or-drop receiving_at r 0 0

    pub so_many_held : (k : ℕ) → k ≡ get_or r receiving_at 0 → k ≡ held_in (region.get r)
    unfolding held_in queue_of
    so_many_held k e = e ∙ sym count_there ∙ held r (open_there n) ∙ sym (ap held_in (is_open r (open_there n)))

    pub few_held : (k : ℕ) → k ≡ get_or r receiving_at 0 → k ≤ most_to_read
    few_held k e =
        let f = open_there n in
        omega (arith, count_there, count_few (open_of r).config.flags (open_of r).receiving (part r f).is (fine r f))

  -- ---- an echo

  pub closed_silent : get_or r 0 0 ≡ 0 → false ≡ would_echo (region.get r)
  unfolding would_echo open_and
  closed_silent z = sym (ap would_echo (is_closed z))

  module _ (n : get_or r 0 0 ≡ 0 → ⊥) where
    abbrev o : Open
    o = open_of r

    pub empty_silent : get_or r flight_at 0 ≡ 0 → false ≡ would_echo (region.get r)
    unfolding would_echo open_and taken
    empty_silent z =
        sym (ap would_echo (is_open r (open_there n)) ∙ ap (λ f. not (listens o.config.flags) && (taken f && o.config.loopback)) (none_flies (open_there n) z)
        ∙ and_false (not (listens o.config.flags)))

    -- what is in flight is no listener's
    speaks : (get_or r flight_at 0 ≡ 0 → ⊥) → not (listens o.config.flags) ≡ true
    speaks z = let f = flies (open_there n) z in T_true _ (out_sound o.config.flags f.one f.held).speaks

    pub by_loopback : (get_or r flight_at 0 ≡ 0 → ⊥) → (b : Bool) → b ≡ not (eqb (get_or r loopback_at 0) 0) → b ≡ would_echo (region.get r)
    unfolding would_echo open_and taken
    by_loopback z b e =
        e ∙ ap (λ (k : ℕ). not (eqb k 0)) (mark_of_law (loopback_part r (open_there n))) ∙ mark_shows o.config.loopback
        ∙ sym (ap would_echo (is_open r (open_there n)) ∙ (λ j. speaks z j && (taken ((flies (open_there n) z).is j) && o.config.loopback)))
