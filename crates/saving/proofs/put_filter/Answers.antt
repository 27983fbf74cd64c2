-- `saving::put_filter` meets its contract. Assumes nothing.
use Prim.Native.Nat.{ℕ, ◌+◌, ◌≤◌, ◌<◌}
use native.Mathlib.Omega.{arith}
use mathlib.Core.Path.{◌≡◌, sym, ◌∙◌}
use mathlib.Core.List.{List, ◌++◌}
use lib.ListN.{length, get_or}
use Rattle.number.specs.Number.{bytes_of}
use Rattle.number.specs.Place.{Written}
use Rattle.machine.specs.Limits.{most_places, most_data, record_size}
use Rattle.machine.specs.Message.{shown}
use Rattle.machine.specs.Store.{filter_bytes}
use Rattle.setups.specs.Good.{clean_rec}
use Rattle.setups.proofs.Records.{shown_long}
use Rattle.layout.specs.Sizes.{sizes_in, masks_in, patterns_in}
use Rattle.filterbank.specs.Part.{FilterPart}
use Rattle.filterbank.proofs.Held.{size_small}
use Rattle.answers.specs.Put.{Put}
use Rattle.answers.proofs.Put.{put_number}
use Rattle.store_sizes.specs.Entries.{filters_of}
use Rattle.store_sizes.proofs.Filters.{wide_in}
use Rattle.saving.specs.Entry.{entry_at}
use Rattle.saving.proofs.Going.{Going, going_on, going_last, next_fits, rest_fits}
use Rattle.saving.proofs.Entries.{lent_row, lent_short, filter_empty, filter_from}
use Rattle.saving.proofs.put_filter.Goals as goal

module _ (part : List ℕ) (i : ℕ) where
  abbrev whole : List ℕ
  whole = entry_at filter_bytes (filters_of part) i

  abbrev mask : List ℕ
  mask = shown (clean_rec (wide_in part i) (lent_row part i masks_in))

  abbrev pattern : List ℕ
  pattern = shown (clean_rec (wide_in part i) (lent_row part i patterns_in))

  module _ (v : FilterPart part) (h : i < most_places) where
    small : get_or part (sizes_in + i) 0 ≤ most_data
    small = size_small part v i h

    mask_long : length mask ≡ record_size
    mask_long = shown_long (wide_in part i) (lent_row part i masks_in) (lent_short part v i h masks_in)

    pattern_long : length pattern ≡ record_size
    pattern_long = shown_long (wide_in part i) (lent_row part i patterns_in) (lent_short part v i h patterns_in)

    module _ (out : List ℕ) (at : ℕ) (room : at + length whole ≤ length out) {k : ℕ} (e : k ≡ get_or part i 0) (n : k ≡ 0 → ⊥) where
      begun : Going out at whole (bytes_of (i + 1) ++ (bytes_of k ++ (mask ++ pattern))) at out
      begun = filter_from part v i h out at k e n room

      -- the number is written, then the type, then the mask
      module _ {n₁ : ℕ} {out₁ : List ℕ} (w₁ : Written out at (i + 1) n₁ out₁) where
        named : Going out at whole (bytes_of k ++ (mask ++ pattern)) n₁ out₁
        named = going_on (bytes_of (i + 1)) _ begun (put_number _ _ _ _ _ w₁)

        module _ {n₂ : ℕ} {out₂ : List ℕ} (w₂ : Written out₁ n₁ k n₂ out₂) where
          typed : Going out at whole (mask ++ pattern) n₂ out₂
          typed = going_on (bytes_of k) _ named (put_number _ _ _ _ _ w₂)

          masked : {n₃ : ℕ} {out₃ : List ℕ} → Put out₂ n₂ mask n₃ out₃ → Going out at whole pattern n₃ out₃
          masked w₃ = going_on mask _ typed w₃

pub returns-then-kind-eq0 : goal.returns-then-kind-eq0
returns-then-kind-eq0 c = filter_empty c.args.part.now c.requires.0 c.args.i c.requires.1 c.args.out.now c.args.at (sym c.wide-kind.ensures.0 ∙ c.if-kind-eq0.true)

pub overflow_cast-size : goal.overflow_cast-size
overflow_cast-size c = record { fits = omega (arith, small c.args.part.now c.args.i c.requires.0 c.requires.1) }

pub overflow_add-mask_end : goal.overflow_add-mask_end
overflow_add-mask_end c = record { fits = omega (arith, small c.args.part.now c.args.i c.requires.0 c.requires.1) }

pub overflow_add-pattern_end : goal.overflow_add-pattern_end
overflow_add-pattern_end c = record { fits = omega (arith, small c.args.part.now c.args.i c.requires.0 c.requires.1) }

pub put_number-named-requires : goal.put_number-named-requires
put_number-named-requires c =
    next_fits (bytes_of (c.args.i + 1)) _ (begun c.args.part.now c.args.i c.requires.0 c.requires.1 c.args.out.now c.args.at c.requires.2 c.wide-kind.ensures.0 c.if-kind-eq0.false)

pub put_number-typed-requires : goal.put_number-typed-requires
put_number-typed-requires c =
    next_fits (bytes_of c.wide-kind.result) _
    (named c.args.part.now c.args.i c.requires.0 c.requires.1 c.args.out.now c.args.at c.requires.2 c.wide-kind.ensures.0 c.if-kind-eq0.false c.put_number-named.ensures)

pub slice_bounds-put_clean-end : goal.slice_bounds-put_clean-end
slice_bounds-put_clean-end c = omega (arith, small c.args.part.now c.args.i c.requires.0 c.requires.1, c.requires.0.long)

pub put_clean-masked-requires : goal.put_clean-masked-requires
put_clean-masked-requires c =
    let part = c.args.part.now in
    let i = c.args.i in
    let v = c.requires.0 in
    let h = c.requires.1 in (
      omega (
        arith,
        next_fits (mask part i) _ (typed part i v h c.args.out.now c.args.at c.requires.2 c.wide-kind.ensures.0 c.if-kind-eq0.false c.put_number-named.ensures c.put_number-typed.ensures),
        mask_long part i v h,
      ),
      lent_short part v i h masks_in,
    )

pub slice_bounds-put_clean-end-2 : goal.slice_bounds-put_clean-end-2
slice_bounds-put_clean-end-2 c = omega (arith, small c.args.part.now c.args.i c.requires.0 c.requires.1, c.requires.0.long)

pub put_clean-requires : goal.put_clean-requires
put_clean-requires c =
    let part = c.args.part.now in
    let i = c.args.i in
    let v = c.requires.0 in
    let h = c.requires.1 in (
      omega (
        arith,
        rest_fits (masked part i v h c.args.out.now c.args.at c.requires.2 c.wide-kind.ensures.0 c.if-kind-eq0.false c.put_number-named.ensures c.put_number-typed.ensures c.put_clean-masked.ensures),
        pattern_long part i v h,
      ),
      lent_short part v i h patterns_in,
    )

pub returns : goal.returns
returns c =
    going_last
    (masked c.args.part.now c.args.i c.requires.0 c.requires.1 c.args.out.now c.args.at c.requires.2 c.wide-kind.ensures.0 c.if-kind-eq0.false c.put_number-named.ensures c.put_number-typed.ensures c.put_clean-masked.ensures)
    c.put_clean.ensures
