-- The bytes of a receiving part: its count, its records and its lost mark; one record more, the oldest given out, the oldest gone. Assumes nothing.
use mathlib.Core.Path.{◌≡◌, refl, sym, ap₂, ◌∙◌}
use Prim.Native.Nat.{ℕ, ◌+◌, ◌*◌, ◌-◌, ◌≤◌, ◌<◌}
use mathlib.Core.Bool.{true, false}
use mathlib.Core.List.{List, [], ◌∷◌, ◌++◌}
use lib.ListN.{length, get_or, set, take, drop}
use lib.Dec.{T, eqb}
use borrow.Rule.Slice.PartMut.{put_mid}
use Rattle.codec.specs.Plain.{zeros}
use Rattle.codec.specs.Code.{both, via, such, mark, up_to, put_all}
use Rattle.codec.proofs.Lawful.{both_first}
use Rattle.codec.proofs.Queue as queue
use Rattle.machine.specs.Limits.{record_size, most_to_read}
use Rattle.machine.specs.Message.{Rec, shown_all}
use Rattle.machine.specs.Channel.{Receiving}
use Rattle.layout.specs.Sizes.{queue_size}
use Rattle.layout.specs.Record.{rec36, in_cell}
use Rattle.layout.specs.Memory.{receiving_parts, receiving_part}
use Rattle.layout.proofs.Memory.{in_lawful, shown_is}
use Rattle.layout.proofs.Sizes.{in_size}

shown_all_law : (flags : ℕ) (xs : List Rec) → shown_all xs ≡ put_all (in_cell flags) xs
unfolding shown_all in_cell such
shown_all_law flags [] = refl
shown_all_law flags (x ∷ xs) = ap₂ (λ (a b : List ℕ). a ++ b) (shown_is x) (shown_all_law flags xs)

-- q is the part that holds x
module _ (flags : ℕ) (x : Receiving) {q : List ℕ} (is : q ≡ (receiving_part flags).put x) (t : T ((receiving_part flags).ok x)) where
  abbrev xs : List Rec
  xs = x.queue

  plain : q ≡ (both (up_to most_to_read (in_cell flags)) mark).put (xs, x.lost)
  unfolding receiving_part via
  plain = is

  store_ok : T ((up_to most_to_read (in_cell flags)).ok xs)
  unfolding receiving_part via
  store_ok = both_first (up_to most_to_read (in_cell flags)) mark (receiving_parts x) t

  pub count_is : get_or q 0 0 ≡ length x.queue
  count_is = queue.count_is (in_lawful flags) most_to_read record_size (in_size flags) xs x.lost plain store_ok

  pub count_few : get_or q 0 0 ≤ most_to_read
  count_few = queue.count_few (in_lawful flags) most_to_read record_size (in_size flags) xs x.lost plain store_ok

  pub lost_is : eqb 1 (get_or q queue_size 0) ≡ x.lost
  lost_is = queue.lost_is (in_lawful flags) most_to_read record_size (in_size flags) xs x.lost plain store_ok

  -- ARRIVE: one record more
  pub one_more : (y : Rec) {ys : List ℕ} (a k v : ℕ) → length x.queue < most_to_read → ys ≡ rec36.put y → a ≡ 1 + length x.queue * record_size → k ≡ record_size → v ≡ length x.queue + 1
      → set (put_mid a k q ys) 0 v ≡ (receiving_part flags).put (record { queue = x.queue ++ y ∷ []; lost = x.lost })
  unfolding receiving_part via in_cell such
  one_more = queue.one_more (in_lawful flags) most_to_read record_size (in_size flags) xs x.lost plain store_ok

  -- ARRIVE: none
  pub one_lost : set q queue_size 1 ≡ (receiving_part flags).put (record { queue = x.queue; lost = true })
  unfolding receiving_part via
  one_lost = queue.one_lost (in_lawful flags) most_to_read record_size (in_size flags) xs x.lost plain store_ok

  -- READ: the m oldest
  pub oldest_out : (m : ℕ) → m ≤ length x.queue → take (m * record_size) (drop 1 q) ≡ shown_all (take m x.queue)
  oldest_out m h = queue.oldest_out (in_lawful flags) most_to_read record_size (in_size flags) xs x.lost plain store_ok m h ∙ sym (shown_all_law flags (take m xs))

  -- READ, CLEAR: the m oldest gone
  pub oldest_gone : (m : ℕ) {ys : List ℕ} (k v : ℕ) → m ≤ length x.queue → k ≡ length x.queue * record_size → ys ≡ drop (m * record_size) (take k (drop 1 q)) ++ zeros (m * record_size)
      → v ≡ length x.queue - m → set (set (put_mid 1 k q ys) 0 v) queue_size 0 ≡ (receiving_part flags).put (record { queue = drop m x.queue; lost = false })
  unfolding receiving_part via
  oldest_gone = queue.oldest_gone (in_lawful flags) most_to_read record_size (in_size flags) xs x.lost plain store_ok
