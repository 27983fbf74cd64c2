-- The store of the channel of a region, part by part, and its length. Assumes nothing.
use Rattle.std.specs.Prelude.{if◌then◌else◌}
use Prim.Native.Nat.{ℕ, ◌+◌, ◌*◌, ◌≤◌}
use native.Mathlib.Omega.{arith}
use mathlib.Core.Path.{◌≡◌, refl, sym, ap, ◌∙◌}
use mathlib.Core.Bool.{Bool, true, false}
use mathlib.Core.List.{List, ◌++◌, map}
use lib.ListN.{length, get_or, take, drop, length-append}
use Rattle.codec.specs.Code.{mark_of}
use Rattle.codec.specs.Word.{word_at}
use Rattle.number.specs.Number.{bytes_of}
use Rattle.machine.specs.Message.{Rec}
use Rattle.machine.specs.Filter.{Slots, Filter}
use Rattle.machine.specs.Store.{slots_bytes, filter_bytes, periodic_bytes, body_bytes, store_bytes}
use Rattle.machine.specs.Channel.{Periodic, saved_of, setup_of}
use Rattle.layout.specs.Sizes.{flags_at, rate_at, loopback_at, filters_at, filters_size}
use Rattle.layout.specs.Promise.{Opened}
use Rattle.layout.proofs.Places.{fl}
use Rattle.layout.proofs.Region.{open_of, word_of, mark_of_law, flags_part, rate_part, loopback_part}
use Rattle.filterbank.proofs.Lent.{part_lent, held_is}
use Rattle.stores.proofs.Periodics.{part_of, lent, lent_held, any_get}
use Rattle.answers.proofs.Size.{one_byte}
use Rattle.store_sizes.specs.Entries.{entries_from, taken_from, filters_of, periodics_of, store_of}
use Rattle.store_sizes.proofs.Turns.{taken_few}
use Rattle.store_sizes.proofs.Filters.{ten_filters, filters_long}
use Rattle.store_sizes.proofs.Periodics.{ten_periodics, periodics_short}

-- the count of the taken places, then their entries
pub slots_are : {A : Type 0} (w : A → List ℕ) (s : Slots A) → slots_bytes w s ≡ bytes_of (taken_from 0 s) ++ entries_from w 0 s
unfolding slots_bytes taken_from entries_from
slots_are w s = refl

-- what the region holds of it
abbrev pub filters_in : List ℕ → Slots Filter
filters_in r = filters_of (take filters_size (drop filters_at r))

abbrev pub periodics_in : List ℕ → Slots (Rec × ℕ)
periodics_in r = periodics_of (part_of r)

module _ (r : List ℕ) (f : Opened r) where
  filters_are : (open_of r).filters ≡ filters_in r
  unfolding filters_of
  filters_are = sym (held_is r f 0)

  periodics_are : map saved_of (open_of r).sending.periodics ≡ periodics_in r
  unfolding periodics_of
  periodics_are = ap (λ (ps : Slots Periodic). map saved_of ps) (sym (lent_held r f) ∙ any_get (fl (open_of r)) 0 (part_of r))

  mark_is : (b : Bool) → (if b then 1 else 0) ≡ mark_of b
  mark_is true = refl
  mark_is false = refl

  loop_is : (if (open_of r).config.loopback then 1 else 0) ≡ get_or r loopback_at 0
  loop_is = mark_is (open_of r).config.loopback ∙ sym (mark_of_law (loopback_part r f))

  -- THE STORE, PART BY PART
  pub store_is : store_of r
      ≡ bytes_of 2 ++ (bytes_of (word_at flags_at r) ++ (slots_bytes filter_bytes (filters_in r) ++ (slots_bytes periodic_bytes (periodics_in r) ++ (bytes_of (word_at rate_at r) ++ bytes_of (get_or r loopback_at 0)))))
  unfolding store_of store_bytes setup_of body_bytes
  store_is =
      λ i. bytes_of 2 ++ (bytes_of (sym (word_of (flags_part r f)) i) ++ (slots_bytes filter_bytes (filters_are i) ++ (slots_bytes periodic_bytes (periodics_are i) ++ (bytes_of (sym (word_of (rate_part r f)) i) ++ bytes_of (loop_is i)))))

  pub few_filters : taken_from 0 (filters_in r) ≤ 10
  few_filters = omega (arith, taken_few (filters_in r), ten_filters (take filters_size (drop filters_at r)) (part_lent r f))

  few_periodics : taken_from 0 (periodics_in r) ≤ 10
  few_periodics = omega (arith, taken_few (periodics_in r), ten_periodics (part_of r) (lent r f))

  mark_small : (b : Bool) → mark_of b ≤ 1
  mark_small true = omega arith
  mark_small false = omega arith

  pub short_periodics : length (entries_from periodic_bytes 0 (periodics_in r)) ≤ 1000
  short_periodics = periodics_short (part_of r) (lent r f)

  pub store_long : 4 + length (bytes_of (word_at flags_at r)) + 74 * taken_from 0 (filters_in r) + length (entries_from periodic_bytes 0 (periodics_in r)) + length (bytes_of (word_at rate_at r)) ≡ length (store_of r)
  store_long =
      let a : List ℕ = bytes_of (word_at flags_at r) in
      let b : List ℕ = slots_bytes filter_bytes (filters_in r) in
      let c : List ℕ = slots_bytes periodic_bytes (periodics_in r) in
      let d : List ℕ = bytes_of (word_at rate_at r) in
      let e : List ℕ = bytes_of (get_or r loopback_at 0) in
      let nf : ℕ = taken_from 0 (filters_in r) in
      let np : ℕ = taken_from 0 (periodics_in r) in
      omega (
        arith,
        ap length store_is,
        length-append (bytes_of 2) (a ++ (b ++ (c ++ (d ++ e)))),
        length-append a (b ++ (c ++ (d ++ e))),
        length-append b (c ++ (d ++ e)),
        length-append c (d ++ e),
        length-append d e,
        ap length (slots_are filter_bytes (filters_in r)),
        length-append (bytes_of nf) (entries_from filter_bytes 0 (filters_in r)),
        ap length (slots_are periodic_bytes (periodics_in r)),
        length-append (bytes_of np) (entries_from periodic_bytes 0 (periodics_in r)),
        filters_long (take filters_size (drop filters_at r)) (part_lent r f),
        one_byte 2 (omega arith),
        one_byte nf (omega (arith, few_filters)),
        one_byte np (omega (arith, few_periodics)),
        one_byte (get_or r loopback_at 0) (omega (arith, mark_of_law (loopback_part r f), mark_small (open_of r).config.loopback)),
      )
