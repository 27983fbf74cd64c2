-- Saving, on the region of an open channel: the clean record, the whole store, and the machine's answers. Assumes nothing.
use Prim.Native.Nat.{ℕ, ◌+◌, ◌-◌, ◌≤◌, ◌<◌}
use native.Mathlib.Omega.{arith}
use mathlib.Core.Path.{◌≡◌, refl, sym, ap, ap₂, ◌∙◌}
use mathlib.Core.Bool.{Bool}
use mathlib.Core.List.{List, ◌++◌}
use lib.ListN.{length, get_or, drop, length-drop}
use lib.Seq.{length-take-le}
use borrow.Rule.Slice.PartMut.{put_mid, mid_of}
use borrow.Author.Tests.{lt-ltb, le-ltb}
use Rattle.codec.specs.Word.{word_at}
use Rattle.number.specs.Number.{bytes_of}
use Rattle.number.proofs.Laws.{written_short}
use Rattle.machine.specs.Codes.{code_of}
use Rattle.machine.specs.Limits.{can_protocol, most_data, record_size, data_in}
use Rattle.machine.specs.Message.{shown, width_flag, twelve}
use Rattle.machine.specs.Store.{slots_bytes, filter_bytes, periodic_bytes}
use Rattle.machine.specs.Channel.{save_setup, on_open, on_raw_call, on_save, unless}
use Rattle.setups.specs.Good.{clean_rec}
use Rattle.setups.proofs.Records.{twelve_long, shown_long}
use Rattle.layout.specs.Sizes.{flags_at, rate_at, loopback_at}
use Rattle.layout.specs.Promise.{Opened, gives, call_outcome}
use Rattle.layout.proofs.Memory.{shown_is}
use Rattle.layout.proofs.Region.{stays}
use Rattle.records.specs.Cell.{numbers, padded}
use Rattle.records.proofs.Laws.{six, record_is, numbers_long}
use Rattle.answers.specs.Put.{Put}
use Rattle.store_sizes.specs.Entries.{store_of}
use Rattle.store_sizes.proofs.Store.{filters_in, periodics_in, store_is, store_long, few_filters, short_periodics}
use Rattle.saving.proofs.Going.{put_over, Going, going_from, going_same, going_on, going_long, going_last}

-- a clean record: six numbers, then data and zeros
pub clean_from : (b : List ℕ) (at : ℕ) (wide : Bool) (bytes : List ℕ) → at + length (shown (clean_rec wide bytes)) ≤ length b
    → Going b at (shown (clean_rec wide bytes)) (six (clean_rec wide bytes) ++ padded most_data bytes) at b
clean_from b at wide bytes r = going_same (shown_is (clean_rec wide bytes) ∙ sym (record_is (clean_rec wide bytes))) (going_from b at (shown (clean_rec wide bytes)) r)

padded_long : (bytes : List ℕ) → length bytes ≤ most_data → length (padded most_data bytes) ≡ most_data
unfolding padded twelve
padded_long bytes h = twelve_long bytes h

pub clean_put : (b : List ℕ) (at : ℕ) (wide : Bool) (bytes ys zs : List ℕ) (tx : ℕ) → tx ≡ width_flag wide → at + record_size ≤ length b → length bytes ≤ most_data
    → ys ≡ numbers can_protocol 0 tx 0 (length bytes) (length bytes)
    → zs ≡ padded (length (mid_of (at + data_in) (at + record_size - (at + data_in)) (put_mid at (at + data_in - at) b ys))) bytes
    → Put b at (shown (clean_rec wide bytes)) (at + record_size) (put_mid (at + data_in) (at + record_size - (at + data_in)) (put_mid at (at + data_in - at) b ys) zs)
clean_put b at wide bytes ys zs tx et room h ey ez =
    let six₀ : List ℕ = six (clean_rec wide bytes) in
    let l₀ : length six₀ ≡ data_in = numbers_long can_protocol 0 (width_flag wide) 0 (length bytes) (length bytes) in
    let b₁ : List ℕ = put_mid at (at + data_in - at) b ys in
    let first : Put b at six₀ (at + data_in) b₁ =
    put_over b ys six₀ at (at + data_in - at) (at + data_in) (omega arith) (omega arith) (ey ∙ ap (λ (k : ℕ). numbers can_protocol 0 k 0 (length bytes) (length bytes)) et) in
    let g = going_on six₀ (padded most_data bytes) (clean_from b at wide bytes (omega (arith, shown_long wide bytes h))) first in
    let l₁ : length b₁ ≡ length b = going_long g in
    let mid : length (mid_of (at + data_in) (at + record_size - (at + data_in)) b₁) ≡ most_data =
    length-take-le (at + record_size - (at + data_in)) (drop (at + data_in) b₁) (omega (arith, length-drop (at + data_in) b₁)) ∙ omega arith in
    let lp : length (padded most_data bytes) ≡ most_data = padded_long bytes h in
    going_last g
    (put_over b₁ zs (padded most_data bytes) (at + data_in) (at + record_size - (at + data_in)) (at + record_size) (omega arith) (omega arith) (ez ∙ ap (λ (k : ℕ). padded k bytes) mid))

module _ (r : List ℕ) (f : Opened r) where
  -- the parts of the store
  pub store_from : (b : List ℕ) → length (store_of r) ≤ length b
      → Going b 0 (store_of r) (bytes_of 2 ++ (bytes_of (word_at flags_at r) ++ (slots_bytes filter_bytes (filters_in r) ++ (slots_bytes periodic_bytes (periodics_in r) ++ (bytes_of (word_at rate_at r) ++ bytes_of (get_or r loopback_at 0)))))) 0 b
  store_from b h = going_same (store_is r f) (going_from b 0 (store_of r) (omega arith))

  pub store_small : length (store_of r) < 2000
  store_small =
      omega (arith, store_long r f, few_filters r f, short_periodics r f, (written_short (word_at flags_at r)).1, (written_short (word_at rate_at r)).1)

  module _ (rates : List ℕ) (t : ℕ) (b : List ℕ) where
    pub save_short : length b < length (store_of r) → gives 0x04 0 b r ≡ call_outcome rates t r (save_setup b)
    unfolding on_open on_raw_call on_save unless code_of store_of
    save_short h = stays r f rates t (save_setup b) 0x04 0 b (rw (lt-ltb (length b) (length (store_of r)) h) refl)

    pub save_done : length (store_of r) ≤ length b → (n : ℕ) (after : List ℕ) → Put b 0 (store_of r) n after → gives 0x00 n after r ≡ call_outcome rates t r (save_setup b)
    unfolding on_open on_raw_call on_save unless code_of store_of
    save_done h n after p =
        let z : 0 + length (store_of r) ≡ length (store_of r) = omega arith in
        ap₂ (λ (k : ℕ) (l : List ℕ). gives 0x00 k l r) (p.ends ∙ z) (p.holds ∙ ap (λ (k : ℕ). store_of r ++ drop k b) z)
        ∙ stays r f rates t (save_setup b) 0x00 (length (store_of r)) (store_of r ++ drop (length (store_of r)) b) (rw (le-ltb (length b) (length (store_of r)) h) refl)
