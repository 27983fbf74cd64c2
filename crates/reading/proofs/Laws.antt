-- Reading, on the region of an open channel: the machine's answers. Assumes nothing.
use mathlib.Core.Path.{◌≡◌, refl, sym, ap, ◌∙◌}
use Prim.Native.Nat.{ℕ, ◌*◌, ◌≤◌, ◌<◌, min}
use native.Mathlib.Omega.{arith}
use mathlib.Core.Bool.{Bool, false}
use mathlib.Core.List.{List, ◌++◌}
use lib.ListN.{length, take, drop}
use borrow.Rule.Slice.PartMut.{put_mid}
use borrow.Author.Tests.{eq-eqb, ne_eqb, lt-ltb, le-ltb}
use Rattle.machine.specs.Codes.{code_of}
use Rattle.machine.specs.Limits.{record_size}
use Rattle.machine.specs.Message.{Rec, shown_all}
use Rattle.machine.specs.Channel.{Open, with_receiving, read, on_open, on_read, reading, read_code, shorter, unless}
use Rattle.layout.specs.Sizes.{receiving_at, queue_size, receiving_size}
use Rattle.layout.specs.Memory.{receiving_part}
use Rattle.layout.specs.Promise.{Opened, gives, call_outcome}
use Rattle.layout.proofs.Region.{open_of, moves, stays}
use Rattle.queue.specs.Queue.{without_oldest}
use Rattle.queue.proofs.Bytes.{oldest_out}
use Rattle.queue.proofs.Laws.{part, part_lent, fine, held, lost, without}
use Rattle.reading.specs.Given.{Held, Given}

-- ---- on the region of an open channel

module _ (r : List ℕ) (f : Opened r) where
  abbrev o : Open
  o = open_of r

  abbrev fl : ℕ
  fl = o.config.flags

  abbrev q : List ℕ
  q = take receiving_size (drop receiving_at r)

  abbrev xs : List Rec
  xs = o.receiving.queue

  pub held_part : Held record_size queue_size (take receiving_size (drop receiving_at r))
  held_part = let l = part_lent r f 0 (omega arith) in record { whole = omega (arith, l); marked = omega (arith, l) }

  module _ (rates : List ℕ) (now n : ℕ) (b : List ℕ) where
    pub read_short : length b < record_size * n → gives 0x04 0 b r ≡ call_outcome rates now r (read n b)
    unfolding on_open on_read unless code_of shorter
    read_short s = stays r f rates now (read n b) 0x04 0 b (rw (lt-ltb (length b) (record_size * n) s) refl)

    pub read_none : record_size * n ≤ length b → n ≡ 0 → gives 0x00 0 b r ≡ call_outcome rates now r (read n b)
    unfolding on_open on_read unless code_of shorter
    read_none s z = stays r f rates now (read n b) 0x00 0 b (rw (le-ltb (length b) (record_size * n) s) (rw (eq-eqb n 0 z) refl))

    pub read_some : record_size * n ≤ length b → (n ≡ 0 → ⊥) → {m code : ℕ} {bs ys : List ℕ} → Given record_size queue_size n q b m code bs
        → ys ≡ (receiving_part fl).put (without_oldest m ((receiving_part fl).get q)) → gives code m bs (put_mid receiving_at receiving_size r ys) ≡ call_outcome rates now r (read n b)
    unfolding on_open on_read unless code_of shorter reading
    read_some s z {m} {code} {bs} {ys} d ey =
        let m' : m ≡ min n (length xs) = d.count_is ∙ ap (min n) (held r f) in
        let c' : code ≡ read_code o.receiving.lost n m = d.code_is ∙ ap (λ (l : Bool). read_code l n m) (lost r f) in
        let k' : m * record_size ≡ record_size * m = omega arith in
        let out : take (m * record_size) (drop 1 q) ≡ shown_all (take m xs) = oldest_out fl o.receiving (part r f).is (fine r f) m (omega arith) in
        let given : bs ≡ shown_all (take m xs) ++ drop (record_size * m) b = d.buffer_is ∙ (λ i. out i ++ drop (k' i) b) in
        (λ i. gives (c' i) m (given i) (put_mid receiving_at receiving_size r ys))
        ∙ moves r f rates now (read n b) (with_receiving o (drop m xs) false) (read_code o.receiving.lost n m) m (shown_all (take m xs) ++ drop (record_size * m) b) (put_mid receiving_at receiving_size r ys)
        (rw (le-ltb (length b) (record_size * n) s) (rw (ne_eqb n 0 z) (rw (sym m') refl))) (without r f m ys ey)
