-- `importing::import_lines` meets its contract. The invariant: what is left of the import is that of the lines from a place on. Assumes nothing.
use Prim.Native.Nat.{ℕ, ◌+◌, ◌≤◌}
use mathlib.Core.Path.{◌≡◌, refl, ◌∙◌}
use native.Mathlib.Omega.{arith}
use lib.ListN.{length, drop}
use Rattle.text_reader.specs.Reading.{before}
use Rattle.text_reader.proofs.Finding.{first_or_end}
use Rattle.candump.specs.Log.{newline}
use Rattle.importing.proofs.Lines.{reason_some, nothing_yet, all_taken, end_inside, stops, goes_on}
use Rattle.importing.proofs.import_lines.Goals as goal

pub loop-at-init : goal.loop-at-init
loop-at-init c =
    nothing_yet _ _ _ c.requires.0

pub slice_bounds-take_line-count : goal.slice_bounds-take_line-count
slice_bounds-take_line-count c =
    let end : c.unwrap_or-end.result ≡ c.loop-at.at + before newline (drop c.loop-at.at c.args.log.now) = c.unwrap_or-end.ensures ∙ first_or_end newline c.args.log.now c.loop-at.at c.find.result c.find.ensures (omega (arith, c.loop-at-test.true)) in
    let inside : (c.loop-at.at ≤ c.unwrap_or-end.result) × (c.unwrap_or-end.result ≤ length c.args.log.now) = end_inside c.loop-at.invariant c.requires.1 c.loop-at-test.true c.unwrap_or-end.result end in
    inside.0

pub slice_bounds-take_line-start : goal.slice_bounds-take_line-start
slice_bounds-take_line-start c =
    let end : c.unwrap_or-end.result ≡ c.loop-at.at + before newline (drop c.loop-at.at c.args.log.now) = c.unwrap_or-end.ensures ∙ first_or_end newline c.args.log.now c.loop-at.at c.find.result c.find.ensures (omega (arith, c.loop-at-test.true)) in
    let inside : (c.loop-at.at ≤ c.unwrap_or-end.result) × (c.unwrap_or-end.result ≤ length c.args.log.now) = end_inside c.loop-at.invariant c.requires.1 c.loop-at-test.true c.unwrap_or-end.result end in
    omega (arith, inside.0, inside.1)

pub slice_bounds-take_line-end : goal.slice_bounds-take_line-end
slice_bounds-take_line-end c =
    let end : c.unwrap_or-end.result ≡ c.loop-at.at + before newline (drop c.loop-at.at c.args.log.now) = c.unwrap_or-end.ensures ∙ first_or_end newline c.args.log.now c.loop-at.at c.find.result c.find.ensures (omega (arith, c.loop-at-test.true)) in
    let inside : (c.loop-at.at ≤ c.unwrap_or-end.result) × (c.unwrap_or-end.result ≤ length c.args.log.now) = end_inside c.loop-at.invariant c.requires.1 c.loop-at-test.true c.unwrap_or-end.result end in
    omega (arith, inside.0, inside.1)

pub returns-in-Err : goal.returns-in-Err
returns-in-Err c =
    let end : c.unwrap_or-end.result ≡ c.loop-at.at + before newline (drop c.loop-at.at c.args.log.now) = c.unwrap_or-end.ensures ∙ first_or_end newline c.args.log.now c.loop-at.at c.find.result c.find.ensures (omega (arith, c.loop-at-test.true)) in
    stops c.loop-at.invariant c.requires.1 c.loop-at-test.true c.unwrap_or-end.result end _ _ _ _ c.in-Err.ensures (reason_some c.in-Err.why)

pub loop-at-smaller : goal.loop-at-smaller
loop-at-smaller c =
    let end : c.unwrap_or-end.result ≡ c.loop-at.at + before newline (drop c.loop-at.at c.args.log.now) = c.unwrap_or-end.ensures ∙ first_or_end newline c.args.log.now c.loop-at.at c.find.result c.find.ensures (omega (arith, c.loop-at-test.true)) in
    let inside : (c.loop-at.at ≤ c.unwrap_or-end.result) × (c.unwrap_or-end.result ≤ length c.args.log.now) = end_inside c.loop-at.invariant c.requires.1 c.loop-at-test.true c.unwrap_or-end.result end in
    omega (arith, inside.0, inside.1)

pub loop-at-preserved : goal.loop-at-preserved
loop-at-preserved c =
    let end : c.unwrap_or-end.result ≡ c.loop-at.at + before newline (drop c.loop-at.at c.args.log.now) = c.unwrap_or-end.ensures ∙ first_or_end newline c.args.log.now c.loop-at.at c.find.result c.find.ensures (omega (arith, c.loop-at-test.true)) in
    goes_on c.loop-at.invariant c.requires.1 c.loop-at-test.true c.unwrap_or-end.result end _ _ _ _ c.in-Ok.ensures refl

pub returns : goal.returns
returns c =
    all_taken c.loop-at.invariant c.requires.1 c.loop-at-test.false
