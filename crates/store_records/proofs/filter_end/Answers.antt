-- `store_records::filter_end` meets its contract: type, mask, pattern, then the tests of a start. Assumes nothing.
use mathlib.Core.Option.{some}
use mathlib.Core.Path.{◌≡◌, ap, ◌∙◌}
use native.Mathlib.Omega.{arith}
use Rattle.number.specs.Reads.{number}
use Rattle.machine.specs.Store.{clean_in}
use Rattle.store_records.specs.Places.{place_of}
use Rattle.store_records.proofs.Told.{refused, done}
use Rattle.store_records.proofs.Parts.{place_bad, number_ends, number_good, number_bad, CleanAt, clean_good}
use Rattle.store_records.proofs.Entries.{no_type, no_mask, no_pattern, filter_refused, filter_taken}
use Rattle.store_records.proofs.filter_end.Goals as goal
use Rattle.store_records.proofs.filter_end.Goals.{In_ok-kind, In_ok-pattern, In_ok-next}

-- what was read so far
type_at : (c : goal.In_ok-kind) → number c.args.store.now c.args.at ≡ some (c.in_ok-kind.kind.value, c.in_ok-kind.kind.next)
type_at c = number_good _ _ c.in_ok-kind.ensures

mask_at : (c : goal.In_ok-pattern) → CleanAt c.args.store.now c.in_ok-kind.kind.next c.in_ok-pattern.pattern
mask_at c = clean_good c.in_ok-pattern.ensures

pattern_at_law : (c : goal.In_ok-next) → CleanAt c.args.store.now c.in_ok-pattern.pattern c.in_ok-next.next
pattern_at_law c = clean_good c.in_ok-next.ensures

pub returns-in_err-kind : goal.returns-in_err-kind
returns-in_err-kind c = ap place_of c.from_residual.ensures ∙ no_type _ _ _ (number_bad _ _ c.in_err-kind.ensures)

pub returns-in_err-pattern : goal.returns-in_err-pattern
returns-in_err-pattern c =
    ap place_of c.from_residual-in_err-pattern.ensures
    ∙ no_mask _ _ _ (number_good _ _ c.in_ok-kind.ensures) (place_bad clean_in _ _ c.in_err-pattern.ensures)

pub returns-in_err-next : goal.returns-in_err-next
returns-in_err-next c =
    ap place_of c.from_residual-in_err-next.ensures
    ∙ no_pattern _ _ _ (number_good _ _ c.in_ok-kind.ensures) (clean_good c.in_ok-pattern.ensures).is (place_bad clean_in _ _ c.in_err-next.ensures)

pub clean_end-requires : goal.clean_end-requires
clean_end-requires c = (number_ends _ _ (type_at c)).inside

pub clean_end-requires-2 : goal.clean_end-requires-2
clean_end-requires-2 c = (mask_at c).inside

pub slice_bounds-start_code-count : goal.slice_bounds-start_code-count
slice_bounds-start_code-count c = omega (arith, (mask_at (goal.at.slice_bounds-start_code-count c).In_ok-pattern).ends)

pub slice_bounds-start_code-start : goal.slice_bounds-start_code-start
slice_bounds-start_code-start c = omega (arith, (mask_at (goal.at.slice_bounds-start_code-start c).In_ok-pattern).ends)

pub slice_bounds-start_code-end : goal.slice_bounds-start_code-end
slice_bounds-start_code-end c = omega (arith, (mask_at (goal.at.slice_bounds-start_code-end c).In_ok-pattern).inside)

pub slice_bounds-start_code-count-2 : goal.slice_bounds-start_code-count-2
slice_bounds-start_code-count-2 c = omega (arith, (pattern_at_law (goal.at.slice_bounds-start_code-count-2 c).In_ok-next).ends)

pub slice_bounds-start_code-start-2 : goal.slice_bounds-start_code-start-2
slice_bounds-start_code-start-2 c = omega (arith, (pattern_at_law (goal.at.slice_bounds-start_code-start-2 c).In_ok-next).ends)

pub slice_bounds-start_code-end-2 : goal.slice_bounds-start_code-end-2
slice_bounds-start_code-end-2 c = omega (arith, (pattern_at_law (goal.at.slice_bounds-start_code-end-2 c).In_ok-next).inside)

pub returns-in_err-ok : goal.returns-in_err-ok
returns-in_err-ok c =
    ap place_of c.from_residual-in_err-ok.ensures
    ∙ filter_refused _ _ _ (number_good _ _ c.in_ok-kind.ensures) (clean_good c.in_ok-pattern.ensures).is (clean_good c.in_ok-next.ensures).is _ c.start_code.ensures (refused _ c.in_err-ok.ensures.value)

pub returns : goal.returns
returns c =
    filter_taken _ _ _ (number_good _ _ c.in_ok-kind.ensures) (clean_good c.in_ok-pattern.ensures).is (clean_good c.in_ok-next.ensures).is _ c.start_code.ensures (done _ _ c.in_ok-ok.ensures.value)
