-- `filterbank::put_place` meets its contract: three bytes and two rows are stored, each in its column. Assumes nothing.
use native.Mathlib.Omega.{arith}
use lib.ListN.{length-set}
use Rattle.codec.proofs.Lists.{bytes_of_law}
use Rattle.filterbank.proofs.Held.{Storing, mask_fits, same_long, put_in}
use Rattle.filterbank.proofs.put_place.Goals as goal
use Rattle.filterbank.proofs.put_place.Goals.{After-shared_slice_known-2-1}

-- what is known once all is looked at
storing : (c : goal.After-shared_slice_known-2-1)
    → let a = c.args in Storing a.part.now a.i a.kind a.size a.mask.now a.pattern.now
storing c =
    record {
      part = c.requires.0;
      place = c.requires.1;
      kind = c.ranges.kind.fits;
      size = c.ranges.size.fits;
      mask_long = c.requires.2;
      pattern_long = c.requires.3;
      mask_bytes = bytes_of_law c.args.mask.now (λ i. (c.shared_slice_known-1.given i).fits);
      pattern_bytes = bytes_of_law c.args.pattern.now (λ i. (c.shared_slice_known-2-1.given i).fits);
    }

pub bounds-part-i-2 : goal.bounds-part-i-2
bounds-part-i-2 c = simp length-set (omega arith)

pub bounds-part-i-3 : goal.bounds-part-i-3
bounds-part-i-3 c = simp length-set (omega arith)

pub slice_bounds-copy-end : goal.slice_bounds-copy-end
slice_bounds-copy-end c = simp length-set (omega arith)

pub slice_bounds-copy-end-2 : goal.slice_bounds-copy-end-2
slice_bounds-copy-end-2 c =
    let a = c.args in
    mask_fits a.part.now a.i a.kind a.size a.wide a.mask.now a.pattern.now (storing (goal.at.slice_bounds-copy-end-2 c).After-shared_slice_known-2-1) _ c.copy.ensures

pub shape_of-part : goal.shape_of-part
shape_of-part c =
    let a = c.args in
    same_long a.part.now a.i a.kind a.size a.wide a.mask.now a.pattern.now (storing (goal.at.shape_of-part c).After-shared_slice_known-2-1) _ _ c.copy.ensures c.copy-2.ensures

pub returns : goal.returns
returns c =
    let a = c.args in
    put_in a.part.now a.i a.kind a.size a.wide a.mask.now a.pattern.now (storing (goal.at.returns c).After-shared_slice_known-2-1) _ _ c.copy.ensures c.copy-2.ensures
