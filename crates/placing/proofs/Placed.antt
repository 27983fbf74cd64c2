-- The part of a region that holds the periodics with another one at a place or none, and its first empty place. Assumes nothing.
use mathlib.Core.Path.{◌≡◌, refl, sym, ap, ◌∙◌}
use Prim.Native.Nat.{ℕ, ◌+◌, ◌*◌, ◌^◌, ◌≤◌, ◌<◌}
use native.Mathlib.Omega.{arith}
use mathlib.Core.Bool.{true, false, not}
use mathlib.Core.Option.{Option, none, some}
use mathlib.Core.List.{List, [], ◌∷◌}
use lib.Dec.{T}
use lib.ListN.{length, get_or, set, take, drop}
use borrow.Rule.Slice.PartMut.{put_mid}
use Rattle.codec.specs.Plain.{all, is_byte, zeros}
use Rattle.codec.specs.Word.{word, word_at}
use Rattle.codec.specs.Code.{byte, word32, via, such, mark, mark_of, vacant}
use Rattle.codec.proofs.Lawful.{word_lawful, mark_lawful, mark_ok}
use Rattle.codec.proofs.Cells.{entry_stored, byte_stored}
use Rattle.machine.specs.Message.{message_code, clean}
use Rattle.machine.specs.Filter.{Slots, free, taken}
use Rattle.machine.specs.Channel.{Periodic, listens, periodic_of}
use Rattle.machine.proofs.Slots.{free_more, free_here, free_all}
use Rattle.machine.specs.Limits.{most_places, record_size}
use Rattle.layout.specs.Sizes.{phases_in, pending_in, messages_in, number_size}
use Rattle.layout.specs.Record.{rec36, out_cell}
use Rattle.layout.specs.Memory.{PeriodicRow, periodic_parts, periodics}
use Rattle.layout.proofs.Held.{word_ok}
use Rattle.layout.proofs.Calls.{clean_ok}
use Rattle.stores.specs.Periodics.{PeriodicPart}
use Rattle.stores.proofs.Periodics.{Taken, record_lawful, intervals_cell, phases_cell, marks_cell, records_cell, record_size_law, stored_long, any_get, ten_held, here, taken_at, empty_at, row_before, row_stored}
use Rattle.placing.specs.Placed.{timed}

module _ (m : List ℕ) (v : PeriodicPart m) where
  module _ (i : ℕ) (h : i < most_places) where
    -- THE FOUR STORES of a place: its timer, and the bytes of its record
    pub place_stored : (x : Option Periodic) → T (word32.ok (periodic_parts x).0) → T ((vacant (out_cell v.flags)).ok (periodic_parts x).1.1.1) → 0 ≡ (periodic_parts x).1.0
        → (n mark a k : ℕ) (ys : List ℕ) → n ≡ (periodic_parts x).0 → mark ≡ mark_of (periodic_parts x).1.1.0 → a ≡ messages_in + i * record_size → k ≡ record_size → ys ≡ (vacant (out_cell v.flags)).put (periodic_parts x).1.1.1
        → (flags : ℕ) → put_mid a k (timed i n mark m) ys ≡ (periodics flags).put (set ((periodics flags).get m) i x)
    unfolding timed word32 mark via such byte
    place_stored x t u z n b a k ys en eb ea ek ey flags =
        let p : PeriodicRow = periodic_parts x in
        let s₁ = entry_stored (intervals_cell v.flags) word_lawful (row_before m v i h) (here m v i h) p.0 t (i * number_size) 4 (word n) (omega arith) refl (ap word en) in
        let s₂ = entry_stored (phases_cell v.flags) word_lawful s₁ (here m v i h) 0 tt (phases_in + i * number_size) 4 (word 0) refl refl refl in
        let s₃ = byte_stored (marks_cell v.flags) mark_lawful s₂ (here m v i h) p.1.1.0 (mark_ok p.1.1.0) (pending_in + i) b (omega arith) refl (omega (arith, stored_long v.flags s₂)) (ap (λ (j : ℕ). j ∷ []) eb) in
        let s₄ = entry_stored (records_cell v.flags) (record_lawful v.flags) s₃ (here m v i h) p.1.1.1 u a k ys (ea ∙ ap (λ (j : ℕ). messages_in + i * j) (sym (record_size_law v.flags))) (ek ∙ sym (record_size_law v.flags)) ey in
        row_stored m v i h x flags (λ j. (p.0, (z j, p.1.1))) s₄

    module _ (ms : List ℕ) (a k : ℕ) (ys : List ℕ) (ea : a ≡ messages_in + i * record_size) (ek : k ≡ record_size) (flags : ℕ) where
      pub stop_stored : ms ≡ timed i 0 0 m → length (take k (drop a ms)) ≡ record_size → ys ≡ zeros (length (take k (drop a ms)))
          → put_mid a k ms ys ≡ (periodics flags).put (set ((periodics flags).get m) i none)
      unfolding word32 vacant
      stop_stored em l ey =
          ap (λ (x : List ℕ). put_mid a k x ys) em
          ∙ place_stored none tt tt refl 0 0 a k ys refl refl ea ek (ey ∙ ap (λ (n : ℕ). zeros n) (l ∙ sym (record_size_law v.flags))) flags

      pub start_stored : (message : List ℕ) (interval : ℕ) → interval < 2 ^ 32 → record_size ≤ length message → T (all is_byte message) → message_code v.flags message ≡ 0 → T (not (listens v.flags))
          → ms ≡ timed i interval 1 m → ys ≡ rec36.put (clean message) → put_mid a k ms ys ≡ (periodics flags).put (set ((periodics flags).get m) i (some (periodic_of message interval)))
      unfolding periodic_of vacant out_cell such
      start_stored message interval hi l t g may em ey =
          ap (λ (x : List ℕ). put_mid a k x ys) em
          ∙ place_stored (some (periodic_of message interval)) (word_ok interval hi) (clean_ok v.flags message may l t g) refl interval 1 a k ys refl refl ea ek ey flags

  -- the first empty place, found by its interval. The first i are taken, as `e` says, which holds at 0
  module _ (i : ℕ) (flags : ℕ) (e : free ((periodics flags).get m) ≡ i + free (drop i ((periodics flags).get m))) where
    ten : length ((periodics flags).get m) ≡ most_places
    ten = ap length (any_get flags v.flags m) ∙ ten_held m v

    is_taken : {x : Option Periodic} → Taken x → taken x ≡ true
    unfolding taken
    is_taken t = ap taken t.is

    is_empty : {x : Option Periodic} → x ≡ none → taken x ≡ false
    unfolding taken
    is_empty z = ap taken z

    pub free_next : (h : i < most_places) → (word_at (i * number_size) m ≡ 0 → ⊥) → free ((periodics flags).get m) ≡ i + 1 + free (drop (i + 1) ((periodics flags).get m))
    free_next h n =
        free_more ((periodics flags).get m) i (omega (arith, ten)) e (ap (λ (x : Slots Periodic). taken (get_or x i none)) (any_get flags v.flags m) ∙ is_taken (taken_at m v i h n))

    pub free_found : (h : i < most_places) → word_at (i * number_size) m ≡ 0 → i ≡ free ((periodics flags).get m)
    free_found h z =
        free_here ((periodics flags).get m) i (omega (arith, ten)) e (ap (λ (x : Slots Periodic). taken (get_or x i none)) (any_get flags v.flags m) ∙ is_empty (empty_at m v i h z))

    pub free_full : most_places ≤ i → i ≡ free ((periodics flags).get m)
    free_full h = free_all ((periodics flags).get m) i (omega (arith, ten)) e
