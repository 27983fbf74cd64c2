-- `replacing::replace` meets its contract. Assumes nothing.
use Prim.Native.Nat.{◌≤◌}
use native.Mathlib.Omega.{arith}
use lib.ListN.{set}
use borrow.Rule.Slice.PartMut.{put_mid}
use Rattle.layout.specs.Sizes.{filters_at, mapped_size, periodics_at, periodics_size, loopback_at}
use Rattle.layout.specs.Promise.{Opened}
use Rattle.replacing.proofs.OnRegion.{filters_there, filters_long, periodics_there, periodics_long, loop_small, opened₃, all_replaced, as_long_as}
use Rattle.replacing.proofs.replace.Goals as goal

pub put_filters-periodics-requires : goal.put_filters-periodics-requires
put_filters-periodics-requires c = (
  filters_there c.args.r.now c.requires.0 c.args.store.now (λ i. (c.shared_slice_known-1.given i).fits) c.requires.1.rates c.requires.1.done c.body_there-filters.result c.body_there-filters.ensures,
  filters_long c.args.r.now c.requires.0 c.args.store.now (λ i. (c.shared_slice_known-1.given i).fits) c.requires.1.rates c.requires.1.done c.body_there-filters.result c.body_there-filters.ensures,
)

pub put_periodics-config-requires : goal.put_periodics-config-requires
put_periodics-config-requires c = (
  periodics_there c.args.r.now c.requires.0 c.args.store.now (λ i. (c.shared_slice_known-1.given i).fits) c.requires.1.rates c.requires.1.done c.body_there-filters.result c.body_there-filters.ensures c.put_filters-periodics.result c.put_filters-periodics.new.part c.put_filters-periodics.ensures,
  periodics_long c.args.r.now c.requires.0 c.args.store.now (λ i. (c.shared_slice_known-1.given i).fits) c.requires.1.rates c.requires.1.done c.body_there-filters.result c.body_there-filters.ensures c.put_filters-periodics.result c.put_filters-periodics.new.part c.put_filters-periodics.ensures,
)

pub overflow_cast-r : goal.overflow_cast-r
overflow_cast-r c = omega (
  arith,
  (let told : c.number_there-loopback.result.value ≤ 1 = loop_small c.args.r.now c.requires.0 c.args.store.now (λ i. (c.shared_slice_known-1.given i).fits) c.requires.1.rates c.requires.1.done c.body_there-filters.result c.body_there-filters.ensures c.put_filters-periodics.result c.put_filters-periodics.new.part c.put_filters-periodics.ensures
      c.put_periodics-config.result c.put_periodics-config.new.part c.put_periodics-config.ensures c.number_there-rate.result.value c.number_there-rate.result.next c.number_there-rate.ensures c.number_there-loopback.result.value c.number_there-loopback.result.next c.number_there-loopback.ensures in told),
)

pub slice_bounds-put_word-end : goal.slice_bounds-put_word-end
slice_bounds-put_word-end c = omega (
  arith,
  ((let told : Opened (set (put_mid periodics_at periodics_size (put_mid filters_at mapped_size c.args.r.now c.put_filters-periodics.new.part) c.put_periodics-config.new.part) loopback_at c.number_there-loopback.result.value) = opened₃ c.args.r.now c.requires.0 c.args.store.now (λ i. (c.shared_slice_known-1.given i).fits) c.requires.1.rates c.requires.1.done c.body_there-filters.result c.body_there-filters.ensures c.put_filters-periodics.result c.put_filters-periodics.new.part c.put_filters-periodics.ensures
      c.put_periodics-config.result c.put_periodics-config.new.part c.put_periodics-config.ensures c.number_there-rate.result.value c.number_there-rate.result.next c.number_there-rate.ensures c.number_there-loopback.result.value c.number_there-loopback.result.next c.number_there-loopback.ensures in told)).long,
)

pub shape_of-r : goal.shape_of-r
shape_of-r c =
    as_long_as c.args.r.now c.requires.0 c.args.store.now (λ i. (c.shared_slice_known-1.given i).fits) c.requires.1.rates c.requires.1.done c.body_there-filters.result c.body_there-filters.ensures c.put_filters-periodics.result c.put_filters-periodics.new.part c.put_filters-periodics.ensures
    c.put_periodics-config.result c.put_periodics-config.new.part c.put_periodics-config.ensures c.number_there-rate.result.value c.number_there-rate.result.next c.number_there-rate.ensures c.number_there-loopback.result.value c.number_there-loopback.result.next c.number_there-loopback.ensures c.put_word.new.s c.put_word.ensures

pub returns : goal.returns
returns c =
    λ rates d.
    all_replaced c.args.r.now c.requires.0 c.args.store.now (λ i. (c.shared_slice_known-1.given i).fits) rates d c.body_there-filters.result c.body_there-filters.ensures c.put_filters-periodics.result c.put_filters-periodics.new.part c.put_filters-periodics.ensures
    c.put_periodics-config.result c.put_periodics-config.new.part c.put_periodics-config.ensures c.number_there-rate.result.value c.number_there-rate.result.next c.number_there-rate.ensures c.number_there-loopback.result.value c.number_there-loopback.result.next c.number_there-loopback.ensures c.put_word.new.s c.put_word.ensures
