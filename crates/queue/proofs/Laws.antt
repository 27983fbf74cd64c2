-- The receive queue in the region of an open channel: when a record arrives, and when the oldest go. Assumes nothing.
use mathlib.Core.Path.{◌≡◌, refl, sym, ap, ◌∙◌, subst}
use Prim.Native.Nat.{ℕ, ◌+◌, ◌*◌, ◌-◌, ◌≤◌, ◌<◌}
use native.Mathlib.Omega.{arith}
use mathlib.Core.Bool.{true, false}
use mathlib.Core.List.{List, [], ◌∷◌, ◌++◌}
use lib.ListN.{length, get_or, set, take, drop}
use lib.Dec.{T, eqb}
use borrow.Rule.Slice.PartMut.{put_mid}
use borrow.Author.Tests.{lt-ltb, le-ltb}
use Rattle.codec.specs.Plain.{zeros}
use Rattle.machine.specs.Limits.{record_size, most_to_read}
use Rattle.machine.specs.Message.{Rec}
use Rattle.machine.specs.Channel.{Open, Receiving, with_receiving, arrive}
use Rattle.layout.specs.Sizes.{receiving_at, queue_size, receiving_size}
use Rattle.layout.specs.Record.{rec36}
use Rattle.layout.specs.Memory.{receiving_part, region}
use Rattle.layout.specs.Promise.{Opened}
use Rattle.layout.proofs.Memory.{receiving_lawful}
use Rattle.layout.proofs.Sizes.{receiving_size_law}
use Rattle.layout.proofs.Region.{open_of, Part, is_open, receiving_part_law}
use Rattle.queue.specs.Queue.{arrived, without_oldest}
use Rattle.queue.proofs.Bytes.{count_is, count_few, lost_is, one_more, one_lost, oldest_gone}

-- ---- a receiving part by itself

module _ (flags : ℕ) (q : List ℕ) (long : length q ≡ receiving_size) (v : T ((receiving_part flags).valid q)) where
  abbrev part_of : Receiving
  part_of = (receiving_part flags).get q

  part_ok : T ((receiving_part flags).ok part_of)
  part_ok = (receiving_lawful flags).ok_get q (long ∙ sym (receiving_size_law flags)) v

  part_put : (receiving_part flags).put part_of ≡ q
  part_put = (receiving_lawful flags).put_get q (long ∙ sym (receiving_size_law flags)) v

  -- what `drop_oldest` leaves
  pub left_behind : (m : ℕ) (ys : List ℕ) → m ≤ get_or q 0 0 → ys ≡ drop (m * record_size) (take (1 + get_or q 0 0 * record_size - 1) (drop 1 q)) ++ zeros (m * record_size)
      → set (set (put_mid 1 (1 + get_or q 0 0 * record_size - 1) q ys) 0 (get_or q 0 0 - m)) queue_size 0 ≡ (receiving_part flags).put (without_oldest m part_of)
  unfolding without_oldest
  left_behind m ys h e =
      let n = count_is flags part_of (sym part_put) part_ok in
      oldest_gone flags part_of (sym part_put) part_ok m (1 + get_or q 0 0 * record_size - 1) (get_or q 0 0 - m) (omega arith) (omega arith) e (omega arith)

-- ---- on the region of an open channel

module _ (r : List ℕ) (f : Opened r) where
  abbrev o : Open
  o = open_of r

  abbrev fl : ℕ
  fl = o.config.flags

  abbrev q : List ℕ
  q = take receiving_size (drop receiving_at r)

  abbrev xs : List Rec
  xs = o.receiving.queue

  pub part : Part r (receiving_part fl) receiving_at receiving_size o.receiving (λ x. with_receiving o x.queue x.lost)
  part = receiving_part_law r f

  pub fine : T ((receiving_part fl).ok o.receiving)
  fine = subst (λ (x : Receiving). T ((receiving_part fl).ok x)) part.got (part_ok fl q part.long part.valid)

  -- the count and the lost mark
  pub held : get_or q 0 0 ≡ length xs
  held = count_is fl o.receiving part.is fine

  pub lost : eqb 1 (get_or q queue_size 0) ≡ o.receiving.lost
  lost = lost_is fl o.receiving part.is fine

  -- ---- a record arrives

  is_arrived : (y : Rec) → arrived y (region.get r) ≡ arrive o y
  unfolding arrived
  is_arrived y = ap (arrived y) (is_open r f)

  pub is_lost : (y : Rec) → most_to_read ≤ get_or q 0 0 → put_mid receiving_at receiving_size r (set q queue_size 1) ≡ region.put (arrived y (region.get r))
  unfolding arrive
  is_lost y h =
      part.becomes (set q queue_size 1) (record { queue = xs; lost = true }) (one_lost fl o.receiving part.is fine)
      ∙ ap region.put (sym (is_arrived y ∙ rw (le-ltb (length xs) most_to_read (omega (arith, held))) refl))

  pub is_last : (y : Rec) (ys : List ℕ) → get_or q 0 0 < most_to_read → ys ≡ rec36.put y
      → put_mid receiving_at receiving_size r (set (put_mid (1 + get_or q 0 0 * record_size) (1 + get_or q 0 0 * record_size + record_size - (1 + get_or q 0 0 * record_size)) q ys) 0 (get_or q 0 0 + 1)) ≡ region.put (arrived y (region.get r))
  unfolding arrive
  is_last y ys h e =
      let at : ℕ = 1 + get_or q 0 0 * record_size in
      let n : get_or q 0 0 ≡ length xs = held in
      let small : length xs < most_to_read = omega arith in
      part.becomes _ (record { queue = xs ++ y ∷ []; lost = o.receiving.lost })
      (one_more fl o.receiving part.is fine y at (at + record_size - at) (get_or q 0 0 + 1) small e (omega arith) (omega arith) (omega arith))
      ∙ ap region.put (sym (is_arrived y ∙ rw (lt-ltb (length xs) most_to_read small) refl))

  -- ---- the oldest go

  -- what `drop_oldest` asks
  pub part_lent : (m : ℕ) → m ≤ get_or q 0 0 → (length q ≡ receiving_size) × (m ≤ get_or q 0 0) × (get_or q 0 0 ≤ most_to_read)
  part_lent m h = (part.long, h, count_few fl o.receiving part.is fine)

  -- the region without the m oldest
  pub without : (m : ℕ) (ys : List ℕ) → ys ≡ (receiving_part fl).put (without_oldest m ((receiving_part fl).get q)) → put_mid receiving_at receiving_size r ys ≡ region.put (with_receiving o (drop m xs) false)
  unfolding without_oldest
  without m ys e = part.becomes ys (record { queue = drop m xs; lost = false }) (e ∙ ap (λ (x : Receiving). (receiving_part fl).put (record { queue = drop m x.queue; lost = false })) part.got)
