-- `store_sizes::store_size` meets its contract. Assumes nothing.
use Prim.Native.Nat.{ℕ, ◌+◌, ◌*◌, ◌≤◌}
use mathlib.Core.Path.{◌≡◌, ap, ◌∙◌}
use mathlib.Core.List.{List}
use native.Mathlib.Omega.{arith}
use lib.ListN.{length}
use Rattle.number.specs.Number.{bytes_of}
use Rattle.number.proofs.Laws.{written_short}
use Rattle.machine.specs.Store.{periodic_bytes}
use Rattle.layout.specs.Promise.{Opened}
use Rattle.filterbank.proofs.Lent.{part_lent}
use Rattle.stores.proofs.Periodics.{lent}
use Rattle.store_sizes.specs.Entries.{entries_from, taken_from}
use Rattle.store_sizes.proofs.Store.{filters_in, periodics_in, few_filters, short_periodics, store_long}
use Rattle.store_sizes.proofs.store_size.Goals as goal

-- what is known when all is counted
module _ (c : goal.After-number_size-rate) where
  abbrev region : List ℕ
  region = c.args.r.now

  abbrev good : Opened region
  good = c.requires

  counted : c.filter_count-count.result ≡ taken_from 0 (filters_in region)
  counted = c.filter_count-count.ensures

  sized : c.periodics_size-periodics.result ≡ length (entries_from periodic_bytes 0 (periodics_in region))
  sized = c.periodics_size-periodics.ensures

  small : 4 + c.number_size-flags.result + 74 * c.filter_count-count.result + c.periodics_size-periodics.result + c.number_size-rate.result ≤ 1754
  small =
      omega (
        arith,
        c.number_size-flags.ensures,
        (written_short c.word_at.result).1,
        counted,
        few_filters region good,
        sized,
        short_periodics region good,
        c.number_size-rate.ensures,
        (written_short c.word_at-2.result).1,
      )

pub filter_count-count-requires : goal.filter_count-count-requires
filter_count-count-requires c = part_lent c.args.r.now c.requires

pub periodics_size-periodics-requires : goal.periodics_size-periodics-requires
periodics_size-periodics-requires c = lent c.args.r.now c.requires

pub overflow_add-result : goal.overflow_add-result
overflow_add-result c = record { fits = omega (arith, small c) }

pub overflow_add-result-2 : goal.overflow_add-result-2
overflow_add-result-2 c = record { fits = omega (arith, small c) }

pub overflow_add-result-3 : goal.overflow_add-result-3
overflow_add-result-3 c = record { fits = omega (arith, small c) }

pub overflow_add-result-4 : goal.overflow_add-result-4
overflow_add-result-4 c = record { fits = omega (arith, small c) }

pub returns : goal.returns
returns c =
    let r = region c in
    omega (
      arith,
      store_long r (good c),
      counted c,
      sized c,
      c.number_size-flags.ensures ∙ ap (λ (k : ℕ). length (bytes_of k)) c.word_at.ensures.0,
      c.number_size-rate.ensures ∙ ap (λ (k : ℕ). length (bytes_of k)) c.word_at-2.ensures.0,
    )
