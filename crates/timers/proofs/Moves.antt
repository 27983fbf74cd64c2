-- Time goes on: one place, then the ten places one a turn. Assumes nothing.
use mathlib.Core.Path.{◌≡◌, refl, sym, ap, ap₂, ◌∙◌, subst}
use Prim.Native.Nat.{ℕ, suc, ◌+◌, ◌*◌, ◌%◌, ◌^◌, ◌≤◌, ◌<◌}
use native.Mathlib.Nat.{mod-lt, mod-eq_of_lt}
use native.Mathlib.Numerals.{add-one}
use native.Mathlib.Omega.{arith}
use mathlib.Core.Bool.{Bool, true, ◌||◌, or-true, or-false}
use mathlib.Core.Option.{Option, none, some}
use mathlib.Core.List.{List, [], ◌∷◌, map}
use lib.Dec.{T, eqb, eqb→eq}
use lib.ListN.{length, get_or, set, take}
use lib.Seq.{get_or-take}
use borrow.Author.Tests.{le-leb, lt-leb}
use borrow.Rule.Slice.PartMut.{put_mid}
use Rattle.codec.specs.Plain.{all_zero}
use Rattle.codec.specs.Word.{word, word_at}
use Rattle.codec.specs.Code.{byte, word32, via, such, mark}
use Rattle.codec.proofs.Lawful.{word_lawful, mark_lawful, mark_ok}
use Rattle.codec.proofs.Lists.{all_at}
use Rattle.codec.proofs.Cells.{entry_stored, byte_stored}
use Rattle.codec.proofs.Loop.{turned, turn_finds, turn_more, turn_all}
use Rattle.machine.specs.Filter.{Slots}
use Rattle.machine.specs.Channel.{Periodic, period, later, later_slot}
use Rattle.machine.specs.Limits.{most_places}
use Rattle.layout.specs.Sizes.{phases_in, pending_in, number_size}
use Rattle.layout.specs.Memory.{PeriodicRow, periodic_parts, periodics}
use Rattle.layout.proofs.Memory.{periodics_lawful}
use Rattle.layout.proofs.Places.{periodics_same}
use Rattle.layout.proofs.Sizes.{periodics_size_law}
use Rattle.layout.proofs.Held.{periodic_place, word_ok}
use Rattle.layout.proofs.Calls.{later_ok}
use Rattle.stores.specs.Periodics.{PeriodicPart, changed}
use Rattle.stores.proofs.Periodics.{phases_cell, marks_cell, stored_long, any_get, changed_ok, held, held_ok, part_is, ten_held, held_at, here, row_before, row_changed, interval_at, phase_at, empty_at, interval_small}

-- ---- the row of a place, some microseconds later

-- no due time was reached
soon_row : (us : ℕ) (x : Option Periodic) (w : ℕ) → w ≡ (periodic_parts x).1.0 + us → w < 1000 * (periodic_parts x).0 → ◌≡◌ {A = PeriodicRow} ((periodic_parts x).0, (w, (periodic_parts x).1.1)) (periodic_parts (later_slot us x))
unfolding later_slot later period
soon_row us none w e h = absurd (omega arith)
soon_row us (some p) w e h =
    let n : p.phase + us < 1000 * p.interval = omega arith in
    λ j. (p.interval, ((e ∙ sym (mod-eq_of_lt n)) j, (sym (ap (λ (b : Bool). p.pending || b) (lt-leb _ _ n) ∙ or-false p.pending) j, some p.message)))

-- one or more were
due_row : (us : ℕ) (x : Option Periodic) (w : ℕ) → ((periodic_parts x).0 ≡ 0 → ⊥) → w ≡ (periodic_parts x).1.0 + us → 1000 * (periodic_parts x).0 ≤ w
    → ◌≡◌ {A = PeriodicRow} ((periodic_parts x).0, (w % (1000 * (periodic_parts x).0), (true, (periodic_parts x).1.1.1))) (periodic_parts (later_slot us x))
unfolding later_slot later period
due_row us none w n e h = absurd (n refl)
due_row us (some p) w n e h =
    let d : 1000 * p.interval ≤ p.phase + us = omega arith in
    λ j. (p.interval, (e j % (1000 * p.interval), (sym (ap (λ (b : Bool). p.pending || b) (le-leb _ _ d) ∙ or-true p.pending) j, some p.message)))

-- ---- that row stored

module _ (m : List ℕ) (v : PeriodicPart m) (i : ℕ) (h : i < most_places) (us : ℕ) (flags : ℕ) where
  pub later_none : word_at (i * number_size) m ≡ 0 → m ≡ (periodics flags).put (changed (later_slot us) i ((periodics flags).get m))
  unfolding later_slot
  later_none z =
      let e = empty_at m v i h z in
      row_changed m v i h (later_slot us) flags (ap periodic_parts (e ∙ sym (ap (later_slot us) e))) (row_before m v i h)

  module _ (w : ℕ) (ew : w ≡ word_at (phases_in + i * number_size) m + us) (a k : ℕ) (ys : List ℕ) (ea : a ≡ phases_in + i * number_size) (ek : k ≡ 4) where
    pub later_soon : w < 1000 * word_at (i * number_size) m → ys ≡ word w → put_mid a k m ys ≡ (periodics flags).put (changed (later_slot us) i ((periodics flags).get m))
    unfolding word32
    later_soon l ey =
        let small : w < 2 ^ 32 = omega (arith, interval_small m v i h) in
        row_changed m v i h (later_slot us) flags
        (soon_row us (held_at m v i h) w (ew ∙ ap (λ (x : ℕ). x + us) (phase_at m v i h)) (subst (λ (x : ℕ). w < 1000 * x) (interval_at m v i h) l))
        (entry_stored (phases_cell v.flags) word_lawful (row_before m v i h) (here m v i h) w (word_ok w small) a k ys ea ek ey)

    pub later_due : (word_at (i * number_size) m ≡ 0 → ⊥) → 1000 * word_at (i * number_size) m ≤ w → ys ≡ word (w % (1000 * word_at (i * number_size) m))
        → set (put_mid a k m ys) (pending_in + i) 1 ≡ (periodics flags).put (changed (later_slot us) i ((periodics flags).get m))
    unfolding word32 mark via such byte
    later_due n l ey =
        let e = interval_at m v i h in
        let below : w % (1000 * word_at (i * number_size) m) < 1000 * word_at (i * number_size) m = mod-lt w (omega arith) in
        let small : w % (1000 * word_at (i * number_size) m) < 2 ^ 32 = omega (arith, interval_small m v i h) in
        let s = entry_stored (phases_cell v.flags) word_lawful (row_before m v i h) (here m v i h) (w % (1000 * word_at (i * number_size) m)) (word_ok _ small) a k ys ea ek ey in
        row_changed m v i h (later_slot us) flags
        (ap (λ (x : ℕ). ((periodic_parts (held_at m v i h)).0, (w % (1000 * x), (true, (periodic_parts (held_at m v i h)).1.1.1)))) e
        ∙ due_row us (held_at m v i h) w (λ z. n (e ∙ z)) (ew ∙ ap (λ (x : ℕ). x + us) (phase_at m v i h)) (subst (λ (x : ℕ). 1000 * x ≤ w) e l))
        (byte_stored (marks_cell v.flags) mark_lawful s (here m v i h) true (mark_ok true) (pending_in + i) 1 (omega arith) refl (omega (arith, stored_long v.flags s)) refl)

-- ---- a part after one place was changed is such a part again

module _ (m : List ℕ) (v : PeriodicPart m) (f : Option Periodic → Option Periodic) (keeps : (flags : ℕ) (x : Option Periodic) → T (periodic_place flags x) → T (periodic_place flags (f x)))
    (i : ℕ) (ys : List ℕ) (e : (flags : ℕ) → ys ≡ (periodics flags).put (changed f i ((periodics flags).get m))) where
  still_ok : T ((periodics v.flags).ok (changed f i (held m v)))
  still_ok = changed_ok v.flags (held m v) (held_ok m v) i f (keeps v.flags)

  pub still_part : PeriodicPart ys
  still_part =
      let l = periodics_lawful v.flags in
      record {
        flags = v.flags;
        long = ap length (e v.flags) ∙ l.long _ still_ok ∙ periodics_size_law v.flags;
        valid = subst (λ (x : List ℕ). T ((periodics v.flags).valid x)) (sym (e v.flags)) (l.valid_put _ still_ok);
      }

  pub still_held : (flags : ℕ) → (periodics flags).get ys ≡ changed f i ((periodics flags).get m)
  still_held flags =
      any_get flags v.flags ys ∙ ap (periodics v.flags).get (e v.flags) ∙ (periodics_lawful v.flags).get_put _ still_ok ∙ ap (changed f i) (any_get v.flags flags m)

-- ---- the ten places, one a turn: after i turns the first i have moved

module _ (us : ℕ) where
  abbrev Moved : ℕ → List ℕ → List ℕ → Type 0
  Moved i m₀ m = (flags : ℕ) → (periodics flags).get m ≡ turned (later_slot us) i ((periodics flags).get m₀)

  pub moved_none : (m : List ℕ) → Moved 0 m m
  moved_none m flags = refl

  turn : (ps : Slots Periodic) (i : ℕ) → i < length ps → changed (later_slot us) i (turned (later_slot us) i ps) ≡ turned (later_slot us) (i + 1) ps
  unfolding changed
  turn ps i h =
      ap (λ (x : Option Periodic). set (turned (later_slot us) i ps) i (later_slot us x)) (turn_finds (later_slot us) i ps none h)
      ∙ turn_more (later_slot us) i ps none h ∙ ap (λ (k : ℕ). turned (later_slot us) k ps) (sym (add-one i))

  module _ (m₀ m : List ℕ) (v₀ : PeriodicPart m₀) (v : PeriodicPart m) (i : ℕ) (a : Moved i m₀ m) where
    pub moved_more : i < most_places → (ys : List ℕ) → ((flags : ℕ) → ys ≡ (periodics flags).put (changed (later_slot us) i ((periodics flags).get m))) → Moved (i + 1) m₀ ys
    moved_more h ys e flags =
        still_held m v (later_slot us) (λ k. later_ok k us) i ys e flags ∙ ap (changed (later_slot us) i) (a flags)
        ∙ turn ((periodics flags).get m₀) i (omega (arith, ap length (any_get flags v₀.flags m₀) ∙ ten_held m₀ v₀))

    pub moved_all : i ≡ most_places → (flags : ℕ) → m ≡ (periodics flags).put (map (later_slot us) ((periodics flags).get m₀))
    moved_all e flags =
        part_is m v ∙ periodics_same v.flags flags (held m v)
        ∙ ap (periodics flags).put
        (any_get v.flags flags m ∙ a flags
        ∙ ap (λ (k : ℕ). turned (later_slot us) k ((periodics flags).get m₀)) (e ∙ sym (ap length (any_get flags v₀.flags m₀) ∙ ten_held m₀ v₀))
        ∙ turn_all (later_slot us) ((periodics flags).get m₀))

-- ---- where every interval is 0 no place has a periodic, and nothing moves

map_none : (us : ℕ) (ps : Slots Periodic) → ((i : ℕ) → i < length ps → get_or ps i none ≡ none) → map (later_slot us) ps ≡ ps
unfolding later_slot
map_none us [] f = refl
map_none us (x ∷ ps) f =
    let e = f 0 (omega arith) in
    ap₂ {C = Slots Periodic} (λ (y : Option Periodic) (ys : Slots Periodic). y ∷ ys) (ap (later_slot us) e ∙ sym e) (map_none us ps (λ i h. f (suc i) (omega arith)))

zero_word : (m : List ℕ) (n a : ℕ) → T (all_zero (take n m)) → a + 4 ≤ n → word_at a m ≡ 0
unfolding word_at
zero_word m n a t h =
    let z : (k : ℕ) → k < n → get_or m k 0 ≡ 0 = λ k l. sym (eqb→eq 0 (get_or (take n m) k 0) (all_at (eqb 0) (take n m) k 0 tt t) ∙ get_or-take n m k 0 l) in
    omega (arith, z a (omega arith), z (a + 1) (omega arith), z (a + 2) (omega arith), z (a + 3) (omega arith))

module _ (m : List ℕ) (v : PeriodicPart m) (us : ℕ) (t : T (all_zero (take phases_in m))) (flags : ℕ) where
  pub nothing_moves : m ≡ (periodics flags).put (map (later_slot us) ((periodics flags).get m))
  nothing_moves =
      let quiet : map (later_slot us) (held m v) ≡ held m v =
      map_none us (held m v) (λ i l. let h : i < most_places = omega (arith, ten_held m v) in empty_at m v i h (zero_word m phases_in (i * number_size) t (omega arith))) in
      part_is m v ∙ periodics_same v.flags flags (held m v)
      ∙ ap (periodics flags).put (sym quiet ∙ ap (map (later_slot us)) (any_get v.flags flags m))
