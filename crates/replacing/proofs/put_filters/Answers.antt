-- `replacing::put_filters` meets its contract. Assumes nothing.
use Rattle.machine.specs.Store.{slots_in}
use Rattle.machine.specs.Channel.{filter_in}
use Rattle.layout.specs.Memory.{filters}
use Rattle.store_filling.specs.Filling.{Gives}
use Rattle.store_filling.proofs.Entries.{list_there, slots_given}
use Rattle.replacing.proofs.Parts.{filters_ok, front_zero, filled_unmapped, filled_mapped}
use Rattle.replacing.proofs.put_filters.Goals as goal

pub fill_filters-next-requires : goal.fill_filters-next-requires
fill_filters-next-requires c = (
  list_there filter_in c.args.store.now c.args.at c.number_there-count.result.value c.number_there-count.result.next c.number_there-count.ensures c.requires.0,
  front_zero c.args.part.now c.requires.1 c.zero.new.d c.zero.ensures,
)

pub remake-requires : goal.remake-requires
remake-requires c =
    let zero = c.zero in
    let t = c.requires.0 in
    let e = (let told : Gives (λ flags. slots_in (filter_in flags)) c.args.store.now c.args.at c.fill_filters-next.result c.fill_filters-next.new.part (λ flags fs. (filters flags).put fs) = slots_given filter_in c.args.store.now c.args.at c.number_there-count.result.value c.number_there-count.result.next c.number_there-count.ensures
    c.fill_filters-next.result c.fill_filters-next.new.part (λ flags fs. (filters flags).put fs) c.fill_filters-next.ensures in told) t.flags t.what t.next t.read in
    filled_unmapped c.args.part.now c.requires.1 zero.new.d zero.ensures c.fill_filters-next.new.part t.flags t.what e.1
    (filters_ok c.args.store.now (λ i. (c.shared_slice_known-1.given i).fits) t.flags c.args.at t.what t.next t.read)

pub returns : goal.returns
returns c =
    let zero = c.zero in
    λ flags fs next r.
    let e = (let told : Gives (λ flags. slots_in (filter_in flags)) c.args.store.now c.args.at c.fill_filters-next.result c.fill_filters-next.new.part (λ flags fs. (filters flags).put fs) = slots_given filter_in c.args.store.now c.args.at c.number_there-count.result.value c.number_there-count.result.next c.number_there-count.ensures
    c.fill_filters-next.result c.fill_filters-next.new.part (λ flags fs. (filters flags).put fs) c.fill_filters-next.ensures in told) flags fs next r in (
      e.0,
      filled_mapped c.args.part.now c.requires.1 zero.new.d zero.ensures c.fill_filters-next.new.part flags fs e.1
          (filters_ok c.args.store.now (λ i. (c.shared_slice_known-1.given i).fits) flags c.args.at fs next r) c.remake.new.m
          (c.remake.ensures flags),
    )
