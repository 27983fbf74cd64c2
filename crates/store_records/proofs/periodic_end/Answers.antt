-- `store_records::periodic_end` meets its contract: message, interval, then the tests of a start. Assumes nothing.
use mathlib.Core.Path.{sym, ap, ◌∙◌}
use native.Mathlib.Omega.{arith}
use Rattle.machine.specs.Store.{clean_in}
use Rattle.store_records.specs.Places.{place_of}
use Rattle.store_records.proofs.Told.{refused, done}
use Rattle.store_records.proofs.Parts.{place_bad, number_good, number_bad, CleanAt, clean_good, clean_long}
use Rattle.store_records.proofs.Entries.{no_message, no_interval, bad_interval, periodic_refused, none_starts, periodic_taken}
use Rattle.store_records.proofs.periodic_end.Goals as goal
use Rattle.store_records.proofs.periodic_end.Goals.{In_ok-end}

-- what was read so far
message_at : (c : goal.In_ok-end) → CleanAt c.args.store.now c.args.at c.in_ok-end.end
message_at c = clean_good c.in_ok-end.ensures

pub returns-in_err-end : goal.returns-in_err-end
returns-in_err-end c = ap place_of c.from_residual.ensures ∙ no_message _ _ _ (place_bad clean_in _ _ c.in_err-end.ensures)

pub returns-in_err-interval : goal.returns-in_err-interval
returns-in_err-interval c =
    ap place_of c.from_residual-in_err-interval.ensures ∙ no_interval _ _ _ (clean_good c.in_ok-end.ensures).is (number_bad _ _ c.in_err-interval.ensures)

pub returns-then-not-between : goal.returns-then-not-between
returns-then-not-between c =
    let m = message_at (goal.at.returns-then-not-between c).In_ok-end in
    bad_interval _ _ _ m.is (number_good _ _ c.in_ok-interval.ensures) (clean_long m) (sym c.between.ensures ∙ c.if-not-between.true)

pub slice_bounds-message_code-count : goal.slice_bounds-message_code-count
slice_bounds-message_code-count c = omega (arith, (message_at (goal.at.slice_bounds-message_code-count c).In_ok-end).ends)

pub slice_bounds-message_code-start : goal.slice_bounds-message_code-start
slice_bounds-message_code-start c = omega (arith, (message_at (goal.at.slice_bounds-message_code-start c).In_ok-end).ends)

pub slice_bounds-message_code-end : goal.slice_bounds-message_code-end
slice_bounds-message_code-end c = omega (arith, (message_at (goal.at.slice_bounds-message_code-end c).In_ok-end).inside)

pub message_code-requires : goal.message_code-requires
message_code-requires c = clean_long (message_at (goal.at.message_code-requires c).In_ok-end)

pub returns-in_err-ok : goal.returns-in_err-ok
returns-in_err-ok c =
    let m = message_at (goal.at.returns-in_err-ok c).In_ok-end in
    ap place_of c.from_residual-in_err-ok.ensures
    ∙ periodic_refused _ _ _ m.is (number_good _ _ c.in_ok-interval.ensures) (clean_long m) _ (sym c.between.ensures ∙ c.if-not-between.false) c.message_code.ensures (refused _ c.in_err-ok.ensures.value)

pub returns-then-listens : goal.returns-then-listens
returns-then-listens c =
    let m = message_at (goal.at.returns-then-listens c).In_ok-end in
    none_starts _ _ _ m.is (number_good _ _ c.in_ok-interval.ensures) (clean_long m) _ (sym c.between.ensures ∙ c.if-not-between.false) c.message_code.ensures
    (sym c.listens.ensures ∙ c.if-listens.true)

pub returns : goal.returns
returns c =
    let m = message_at (goal.at.returns c).In_ok-end in
    periodic_taken _ _ _ m.is (number_good _ _ c.in_ok-interval.ensures) (clean_long m) _ (sym c.between.ensures ∙ c.if-not-between.false) c.message_code.ensures (done _ _ c.in_ok-ok.ensures.value)
    (sym c.listens.ensures ∙ c.if-listens.false)
