-- `saving::put_store` meets its contract: the six parts, one after the other. Assumes nothing.
use Prim.Native.Nat.{ℕ, ◌≤◌}
use mathlib.Core.Path.{◌≡◌}
use mathlib.Core.List.{List, ◌++◌}
use lib.ListN.{length, get_or}
use Rattle.codec.specs.Word.{word_at}
use Rattle.number.specs.Number.{bytes_of}
use Rattle.number.specs.Place.{Written}
use Rattle.machine.specs.Store.{slots_bytes, filter_bytes, periodic_bytes}
use Rattle.layout.specs.Sizes.{flags_at, rate_at, loopback_at}
use Rattle.layout.specs.Promise.{Opened}
use Rattle.filterbank.proofs.Lent.{part_lent}
use Rattle.stores.proofs.Periodics.{lent}
use Rattle.answers.specs.Put.{Put}
use Rattle.answers.proofs.Put.{put_number}
use Rattle.store_sizes.specs.Entries.{store_of}
use Rattle.store_sizes.proofs.Store.{filters_in, periodics_in}
use Rattle.saving.proofs.Going.{value_fits, put_value, Going, going_on, going_last, next_fits, rest_fits}
use Rattle.saving.proofs.Laws.{store_from}
use Rattle.saving.proofs.put_store.Goals as goal

module _ (region : List ℕ) where
  abbrev flags : ℕ
  flags = word_at flags_at region

  abbrev filters : List ℕ
  filters = slots_bytes filter_bytes (filters_in region)

  abbrev periodics : List ℕ
  periodics = slots_bytes periodic_bytes (periodics_in region)

  abbrev rate : ℕ
  rate = word_at rate_at region

  abbrev loop : ℕ
  loop = get_or region loopback_at 0

  module _ (good : Opened region) (out : List ℕ) (room : length (store_of region) ≤ length out) where
    begun : Going out 0 (store_of region) (bytes_of 2 ++ (bytes_of flags ++ (filters ++ (periodics ++ (bytes_of rate ++ bytes_of loop))))) 0 out
    begun = store_from region good out room

    -- what is left behind each part
    module _ {n₁ : ℕ} {out₁ : List ℕ} (w₁ : Written out 0 2 n₁ out₁) where
      versioned : Going out 0 (store_of region) (bytes_of flags ++ (filters ++ (periodics ++ (bytes_of rate ++ bytes_of loop)))) n₁ out₁
      versioned = going_on (bytes_of 2) _ begun (put_number _ _ _ _ _ w₁)

      module _ {k₂ n₂ : ℕ} {out₂ : List ℕ} (e₂ : k₂ ≡ flags) (w₂ : Written out₁ n₁ k₂ n₂ out₂) where
        flagged : Going out 0 (store_of region) (filters ++ (periodics ++ (bytes_of rate ++ bytes_of loop))) n₂ out₂
        flagged = going_on (bytes_of flags) _ versioned (put_value e₂ w₂)

        module _ {n₃ : ℕ} {out₃ : List ℕ} (w₃ : Put out₂ n₂ filters n₃ out₃) where
          filtered : Going out 0 (store_of region) (periodics ++ (bytes_of rate ++ bytes_of loop)) n₃ out₃
          filtered = going_on filters _ flagged w₃

          module _ {n₄ : ℕ} {out₄ : List ℕ} (w₄ : Put out₃ n₃ periodics n₄ out₄) where
            timed : Going out 0 (store_of region) (bytes_of rate ++ bytes_of loop) n₄ out₄
            timed = going_on periodics _ filtered w₄

            rated : {k₅ n₅ : ℕ} {out₅ : List ℕ} → k₅ ≡ rate → Written out₄ n₄ k₅ n₅ out₅ → Going out 0 (store_of region) (bytes_of loop) n₅ out₅
            rated e₅ w₅ = going_on (bytes_of rate) _ timed (put_value e₅ w₅)

pub put_number-versioned-requires : goal.put_number-versioned-requires
put_number-versioned-requires c = next_fits (bytes_of 2) _ (begun c.args.r.now c.requires.0 c.args.out.now c.requires.1)

pub put_number-flagged-requires : goal.put_number-flagged-requires
put_number-flagged-requires c =
    let r = c.args.r.now in
    value_fits (flags r) c.put_number-versioned.result c.put_number-versioned.new.out c.word_at.ensures.0
    (next_fits (bytes_of (flags r)) _ (versioned r c.requires.0 c.args.out.now c.requires.1 c.put_number-versioned.ensures))

pub put_filters-filtered-requires : goal.put_filters-filtered-requires
put_filters-filtered-requires c =
    let r = c.args.r.now in (
      part_lent r c.requires.0,
      next_fits (filters r) _ (flagged r c.requires.0 c.args.out.now c.requires.1 c.put_number-versioned.ensures c.word_at.ensures.0 c.put_number-flagged.ensures),
    )

pub put_periodics-timed-requires : goal.put_periodics-timed-requires
put_periodics-timed-requires c =
    let r = c.args.r.now in (
      lent r c.requires.0,
      next_fits (periodics r) _
          (filtered r c.requires.0 c.args.out.now c.requires.1 c.put_number-versioned.ensures c.word_at.ensures.0 c.put_number-flagged.ensures c.put_filters-filtered.ensures),
    )

pub put_number-rated-requires : goal.put_number-rated-requires
put_number-rated-requires c =
    let r = c.args.r.now in
    value_fits (rate r) c.put_periodics-timed.result c.put_periodics-timed.new.out c.word_at-2.ensures.0
    (next_fits (bytes_of (rate r)) _
    (timed r c.requires.0 c.args.out.now c.requires.1 c.put_number-versioned.ensures c.word_at.ensures.0 c.put_number-flagged.ensures c.put_filters-filtered.ensures c.put_periodics-timed.ensures))

pub put_number-requires : goal.put_number-requires
put_number-requires c =
    let r = c.args.r.now in
    value_fits (loop r) c.put_number-rated.result c.put_number-rated.new.out c.wide.ensures.0
    (rest_fits
    (rated r c.requires.0 c.args.out.now c.requires.1 c.put_number-versioned.ensures c.word_at.ensures.0 c.put_number-flagged.ensures c.put_filters-filtered.ensures c.put_periodics-timed.ensures c.word_at-2.ensures.0 c.put_number-rated.ensures))

pub returns : goal.returns
returns c =
    going_last
    (rated c.args.r.now c.requires.0 c.args.out.now c.requires.1 c.put_number-versioned.ensures c.word_at.ensures.0 c.put_number-flagged.ensures c.put_filters-filtered.ensures c.put_periodics-timed.ensures c.word_at-2.ensures.0 c.put_number-rated.ensures)
    (put_value c.wide.ensures.0 c.put_number.ensures)
