-- `ten_places::filter` meets its contract: an empty place, a size over 12, a filter. Assumes nothing.
use Rattle.ten_places.proofs.Filters.{filter_over, filter_empty, filter_set}
use Rattle.machine.specs.Limits.{most_data}
use Rattle.layout.specs.Sizes.{widths_in, sizes_in}
use lib.ListN.{get_or}
use lib.Dec.{eqb, leb}
use native.Mathlib.Omega.{arith}
use Prim.Native.Nat.{ℕ, ◌+◌}
use mathlib.Core.List.{List}
use mathlib.Core.Bool.{◌&&◌, not}
use mathlib.Core.Path.{◌∙◌}
use Rattle.ten_places.proofs.filter.Goals as goal

pub overflow_cast-n : goal.overflow_cast-n
overflow_cast-n c = omega (arith, c.shared_slice_known-3-1.given (sizes_in + c.args.i))

pub returns-then-s-i-eq0 : goal.returns-then-s-i-eq0
returns-then-s-i-eq0 c = let s : List ℕ = c.args.s.now in
    let i : ℕ = c.args.i in
    (λ j. leb (get_or s (widths_in + i) 0) 1 && (not (eqb 1 (get_or s (widths_in + i) 0)) && eqb (get_or s (sizes_in + i) 0) 0 && c.twelve_end.ensures j && c.twelve_end-then-s-i-eq0.ensures j))
    ∙ filter_empty c.args.flags i s c.if-s-i-eq0.true

pub returns-then-n-gt-ROW : goal.returns-then-n-gt-ROW
returns-then-n-gt-ROW c = filter_over c.args.flags c.args.i c.args.s.now c.if-n-gt-ROW.true

pub returns : goal.returns
returns c = let s : List ℕ = c.args.s.now in
    let i : ℕ = c.args.i in
    let n : ℕ = get_or s (sizes_in + i) 0 in
    (λ j. leb (get_or s (widths_in + i) 0) 1 && (leb (get_or s i 0) 2 && c.takes_width.ensures j && (leb 1 n && leb n most_data) && c.twelve_end-2.ensures j && c.twelve_end-3.ensures j))
    ∙ filter_set c.args.flags i s c.if-s-i-eq0.false
