-- The receiving part of an ISO 15765 channel by itself: when a record arrives, when the oldest are given out, and when they go. Assumes nothing.
use mathlib.Core.Path.{◌≡◌, refl, sym, ap₂, ◌∙◌}
use Prim.Native.Nat.{ℕ, ◌+◌, ◌*◌, ◌-◌, ◌≤◌, ◌<◌}
use native.Mathlib.Omega.{arith}
use mathlib.Core.List.{List, [], ◌∷◌, ◌++◌}
use lib.ListN.{length, get_or, set, take, drop}
use lib.Dec.{T, eqb}
use borrow.Rule.Slice.PartMut.{put_mid}
use borrow.Author.Tests.{lt-ltb, le-ltb}
use Rattle.codec.specs.Plain.{zeros}
use Rattle.codec.specs.Code.{both, via, such, mark, up_to, put_all}
use Rattle.codec.proofs.Lawful.{both_first}
use Rattle.codec.proofs.Queue as queue
use Rattle.machine.specs.Message.{Rec}
use Rattle.machine.specs.Channel.{Receiving}
use Rattle.iso.specs.Limits.{most_heard, iso_record_size}
use Rattle.iso.specs.Iso.{arrive_iso, shown_iso_all}
use Rattle.iso_layout.specs.Sizes.{heard_size}
use Rattle.iso_layout.specs.Region.{rec536, heard_cell, heard_parts, heard_part}
use Rattle.iso_layout.proofs.Sizes.{heard_size_law, heard_part_size}
use Rattle.iso_layout.proofs.Lawful.{heard_lawful, heard_part_lawful, shown_iso_is}
use Rattle.queue.specs.Queue.{without_oldest}

shown_all_law : (flags : ℕ) (xs : List Rec) → shown_iso_all xs ≡ put_all (heard_cell flags) xs
unfolding shown_iso_all heard_cell such
shown_all_law flags [] = refl
shown_all_law flags (x ∷ xs) = ap₂ (λ (a b : List ℕ). a ++ b) (shown_iso_is x) (shown_all_law flags xs)

-- q is a receiving part of a connection of these flags
module _ (flags : ℕ) (q : List ℕ) (long : length q ≡ heard_size + 1) (v : T ((heard_part flags).valid q)) where
  abbrev x : Receiving
  x = (heard_part flags).get q

  abbrev xs : List Rec
  xs = x.queue

  is : q ≡ (both (up_to most_heard (heard_cell flags)) mark).put (xs, x.lost)
  unfolding heard_part via
  is = sym ((heard_part_lawful flags).put_get q (long ∙ sym (heard_part_size flags)) v)

  store_ok : T ((up_to most_heard (heard_cell flags)).ok xs)
  unfolding heard_part via
  store_ok = both_first (up_to most_heard (heard_cell flags)) mark (heard_parts x) ((heard_part_lawful flags).ok_get q (long ∙ sym (heard_part_size flags)) v)

  -- the count and the lost mark
  pub count_is : get_or q 0 0 ≡ length ((heard_part flags).get q).queue
  count_is = queue.count_is (heard_lawful flags) most_heard iso_record_size (heard_size_law flags) xs x.lost is store_ok

  pub count_few : get_or q 0 0 ≤ most_heard
  count_few = queue.count_few (heard_lawful flags) most_heard iso_record_size (heard_size_law flags) xs x.lost is store_ok

  pub lost_is : eqb 1 (get_or q heard_size 0) ≡ ((heard_part flags).get q).lost
  lost_is = queue.lost_is (heard_lawful flags) most_heard iso_record_size (heard_size_law flags) xs x.lost is store_ok

  -- ARRIVE: it is lost
  pub is_lost : (y : Rec) → most_heard ≤ get_or q 0 0 → set q heard_size 1 ≡ (heard_part flags).put (arrive_iso ((heard_part flags).get q) (y ∷ []))
  unfolding heard_part via arrive_iso
  is_lost y h =
      let full : most_heard ≤ length xs = omega (arith, count_is) in
      rw (le-ltb (length xs) most_heard full) (queue.one_lost (heard_lawful flags) most_heard iso_record_size (heard_size_law flags) xs x.lost is store_ok)

  -- ARRIVE: it is the last
  pub is_last : (y : Rec) (ys : List ℕ) → get_or q 0 0 < most_heard → ys ≡ rec536.put y
      → set (put_mid (1 + get_or q 0 0 * iso_record_size) (1 + get_or q 0 0 * iso_record_size + iso_record_size - (1 + get_or q 0 0 * iso_record_size)) q ys) 0 (get_or q 0 0 + 1) ≡ (heard_part flags).put (arrive_iso ((heard_part flags).get q) (y ∷ []))
  unfolding heard_part heard_cell via such arrive_iso
  is_last y ys h e =
      let at : ℕ = 1 + get_or q 0 0 * iso_record_size in
      let n : get_or q 0 0 ≡ length xs = count_is in
      let small : length xs < most_heard = omega arith in
      rw (lt-ltb (length xs) most_heard small)
      (queue.one_more (heard_lawful flags) most_heard iso_record_size (heard_size_law flags) xs x.lost is store_ok y at (at + iso_record_size - at) (get_or q 0 0 + 1) small e (omega arith) (omega arith) (omega arith))

  -- READ: the m oldest
  pub oldest_out : (m : ℕ) → m ≤ get_or q 0 0 → take (m * iso_record_size) (drop 1 q) ≡ shown_iso_all (take m ((heard_part flags).get q).queue)
  oldest_out m h =
      queue.oldest_out (heard_lawful flags) most_heard iso_record_size (heard_size_law flags) xs x.lost is store_ok m (omega (arith, count_is)) ∙ sym (shown_all_law flags (take m xs))

  -- READ: the m oldest gone
  pub left_behind : (m : ℕ) (ys : List ℕ) → m ≤ get_or q 0 0 → ys ≡ drop (m * iso_record_size) (take (1 + get_or q 0 0 * iso_record_size - 1) (drop 1 q)) ++ zeros (m * iso_record_size)
      → set (set (put_mid 1 (1 + get_or q 0 0 * iso_record_size - 1) q ys) 0 (get_or q 0 0 - m)) heard_size 0 ≡ (heard_part flags).put (without_oldest m ((heard_part flags).get q))
  unfolding heard_part via without_oldest
  left_behind m ys h e =
      let n : get_or q 0 0 ≡ length xs = count_is in
      queue.oldest_gone (heard_lawful flags) most_heard iso_record_size (heard_size_law flags) xs x.lost is store_ok m (1 + get_or q 0 0 * iso_record_size - 1) (get_or q 0 0 - m) (omega arith) (omega arith) e (omega arith)
