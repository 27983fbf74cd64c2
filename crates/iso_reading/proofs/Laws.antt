-- Reading, on the region of an open ISO 15765 channel: the answers of `iso`. Assumes nothing.
use mathlib.Core.Path.{◌≡◌, refl, sym, ap, ◌∙◌}
use Prim.Native.Nat.{ℕ, ◌+◌, ◌*◌, ◌≤◌, ◌<◌, min}
use native.Mathlib.Omega.{arith}
use mathlib.Core.Bool.{Bool, false}
use mathlib.Core.List.{List, ◌++◌}
use lib.ListN.{length, get_or, take, drop}
use lib.Dec.{eqb}
use borrow.Rule.Slice.PartMut.{put_mid}
use borrow.Author.Tests.{eq-eqb, ne_eqb, lt-ltb, le-ltb}
use Rattle.codec.proofs.Part.{Part}
use Rattle.machine.specs.Codes.{code_of}
use Rattle.machine.specs.Message.{Rec}
use Rattle.machine.specs.Channel.{Receiving, read, read_code}
use Rattle.layout.specs.Promise.{gives}
use Rattle.iso.specs.Limits.{most_heard, iso_record_size}
use Rattle.iso.specs.Iso.{OpenIso, ready, set_receiving, shown_iso_all, on_ready, on_iso_read, iso_reading, shorter_iso, unless_iso}
use Rattle.iso_layout.specs.Sizes.{heard_at, heard_size}
use Rattle.iso_layout.specs.Region.{heard_part, iso_region}
use Rattle.iso_layout.specs.Promise.{IsoOpened, iso_outcome}
use Rattle.iso_layout.proofs.Good.{fli}
use Rattle.iso_layout.proofs.Region.{ready_of, moves, stays, lies, receiving_part_law}
use Rattle.queue.specs.Queue.{without_oldest}
use Rattle.reading.specs.Given.{Held, Given}
use Rattle.iso_queue.proofs.Laws.{count_is, count_few, lost_is, oldest_out}

module _ (r : List ℕ) (f : IsoOpened r) where
  abbrev o : OpenIso
  o = ready_of r

  abbrev q : List ℕ
  q = take (heard_size + 1) (drop heard_at r)

  abbrev xs : List Rec
  xs = o.receiving.queue

  pub part : Part iso_region r (heard_part (fli (ready_of r))) heard_at (heard_size + 1) (ready_of r).receiving (λ x. ready (set_receiving (ready_of r) x))
  part = receiving_part_law o r (lies r f)

  held : get_or q 0 0 ≡ length xs
  held = count_is (fli o) q part.long part.valid ∙ ap (λ (x : Receiving). length x.queue) part.got

  lost : eqb 1 (get_or q heard_size 0) ≡ o.receiving.lost
  lost = lost_is (fli o) q part.long part.valid ∙ ap (λ (x : Receiving). x.lost) part.got

  -- what `drop_oldest` asks
  pub part_lent : (m : ℕ) → m ≤ get_or (take (heard_size + 1) (drop heard_at r)) 0 0
      → (length (take (heard_size + 1) (drop heard_at r)) ≡ heard_size + 1) × (m ≤ get_or (take (heard_size + 1) (drop heard_at r)) 0 0) × (get_or (take (heard_size + 1) (drop heard_at r)) 0 0 ≤ most_heard)
  part_lent m h = (part.long, h, count_few (fli o) q part.long part.valid)

  pub held_part : Held iso_record_size heard_size (take (heard_size + 1) (drop heard_at r))
  held_part = let l = part_lent 0 (omega arith) in record { whole = omega (arith, l); marked = omega (arith, l) }

  module _ (rates : List ℕ) (now n : ℕ) (b : List ℕ) where
    pub read_short : length b < iso_record_size * n → gives 0x04 0 b r ≡ iso_outcome rates now r (read n b)
    unfolding on_ready on_iso_read unless_iso code_of shorter_iso
    read_short s = stays r f rates now (read n b) 0x04 0 b (rw (lt-ltb (length b) (iso_record_size * n) s) refl)

    pub read_none : iso_record_size * n ≤ length b → n ≡ 0 → gives 0x00 0 b r ≡ iso_outcome rates now r (read n b)
    unfolding on_ready on_iso_read unless_iso code_of shorter_iso
    read_none s z = stays r f rates now (read n b) 0x00 0 b (rw (le-ltb (length b) (iso_record_size * n) s) (rw (eq-eqb n 0 z) refl))

    pub read_some : iso_record_size * n ≤ length b → (n ≡ 0 → ⊥) → {m code : ℕ} {bs ys : List ℕ} → Given iso_record_size heard_size n (take (heard_size + 1) (drop heard_at r)) b m code bs
        → ys ≡ (heard_part (fli (ready_of r))).put (without_oldest m ((heard_part (fli (ready_of r))).get (take (heard_size + 1) (drop heard_at r))))
        → gives code m bs (put_mid heard_at (heard_size + 1) r ys) ≡ iso_outcome rates now r (read n b)
    unfolding on_ready on_iso_read unless_iso code_of shorter_iso iso_reading without_oldest
    read_some s z {m} {code} {bs} {ys} d ey =
        let m' : m ≡ min n (length xs) = d.count_is ∙ ap (min n) held in
        let c' : code ≡ read_code o.receiving.lost n m = d.code_is ∙ ap (λ (l : Bool). read_code l n m) lost in
        let k' : m * iso_record_size ≡ iso_record_size * m = omega arith in
        let out : take (m * iso_record_size) (drop 1 q) ≡ shown_iso_all (take m xs) = oldest_out (fli o) q part.long part.valid m (omega arith) ∙ ap (λ (x : Receiving). shown_iso_all (take m x.queue)) part.got in
        let given : bs ≡ shown_iso_all (take m xs) ++ drop (iso_record_size * m) b = d.buffer_is ∙ (λ i. out i ++ drop (k' i) b) in
        let left : Receiving = record { queue = drop m xs; lost = false } in
        (λ i. gives (c' i) m (given i) (put_mid heard_at (heard_size + 1) r ys))
        ∙ moves r f rates now (read n b) (ready (set_receiving o left)) (read_code o.receiving.lost n m) m (shown_iso_all (take m xs) ++ drop (iso_record_size * m) b) (put_mid heard_at (heard_size + 1) r ys)
        (rw (le-ltb (length b) (iso_record_size * n) s) (rw (ne_eqb n 0 z) (rw (sym m') refl)))
        (part.becomes ys left (ey ∙ ap (λ (x : Receiving). (heard_part (fli o)).put (without_oldest m x)) part.got))
