-- `log_reader::read_frame` meets its contract. Assumes nothing.
use mathlib.Core.Path.{◌≡◌, refl, sym, ap, subst, ◌∙◌}
use native.Mathlib.Omega.{arith}
use Rattle.text_reader.proofs.Finding.{Found, first_there, first_missing}
use Rattle.candump.specs.Line.{hash}
use Rattle.log_reader.specs.Reading.{FrameReads}
use Rattle.log_reader.proofs.Framing.{no_hash, no_identifier, bad_data, is_frame}
use Rattle.log_reader.proofs.read_frame.Goals as goal

pub returns-in_err-mark : goal.returns-in_err-mark
returns-in_err-mark c =
    subst (FrameReads c.args.line.now c.args.from) (sym c.from_residual.ensures) (no_hash _ _ _ c.requires refl (first_missing hash c.args.line.now c.args.from c.in_err-mark.ensures))

pub slice_bounds-read_id-count : goal.slice_bounds-read_id-count
slice_bounds-read_id-count c = omega (arith, (first_there hash c.args.line.now c.args.from c.in_ok-mark.mark c.in_ok-mark.ensures).is)

pub slice_bounds-read_id-start : goal.slice_bounds-read_id-start
slice_bounds-read_id-start c =
    let mark : Found hash c.args.line.now c.args.from c.in_ok-mark.mark = first_there hash c.args.line.now c.args.from c.in_ok-mark.mark c.in_ok-mark.ensures in
    omega (arith, mark.is, mark.inside)

pub slice_bounds-read_id-end : goal.slice_bounds-read_id-end
slice_bounds-read_id-end c =
    let mark : Found hash c.args.line.now c.args.from c.in_ok-mark.mark = first_there hash c.args.line.now c.args.from c.in_ok-mark.mark c.in_ok-mark.ensures in
    omega (arith, mark.is, mark.inside)

pub returns-in_err-identifier : goal.returns-in_err-identifier
returns-in_err-identifier c =
    let mark : Found hash c.args.line.now c.args.from c.in_ok-mark.mark = first_there hash c.args.line.now c.args.from c.in_ok-mark.mark c.in_ok-mark.ensures in
    subst (FrameReads c.args.line.now c.args.from) (sym c.from_residual-in_err-identifier.ensures) (no_identifier _ _ c.in_ok-mark.mark c.requires mark.is mark.inside c.in_err-identifier.ensures)

pub slice_bounds-good_data-count : goal.slice_bounds-good_data-count
slice_bounds-good_data-count c = omega (arith, (first_there hash c.args.line.now c.args.from c.in_ok-mark.mark c.in_ok-mark.ensures).inside)

pub slice_bounds-good_data-start : goal.slice_bounds-good_data-start
slice_bounds-good_data-start c = omega (arith, (first_there hash c.args.line.now c.args.from c.in_ok-mark.mark c.in_ok-mark.ensures).inside)

pub returns-then-not-good_data : goal.returns-then-not-good_data
returns-then-not-good_data c =
    let mark : Found hash c.args.line.now c.args.from c.in_ok-mark.mark = first_there hash c.args.line.now c.args.from c.in_ok-mark.mark c.in_ok-mark.ensures in
    bad_data _ _ c.in_ok-mark.mark c.requires mark.is mark.inside c.in_ok-identifier.identifier c.in_ok-identifier.ensures _ c.good_data.ensures c.if-not-good_data.true

pub returns : goal.returns
returns c =
    let mark : Found hash c.args.line.now c.args.from c.in_ok-mark.mark = first_there hash c.args.line.now c.args.from c.in_ok-mark.mark c.in_ok-mark.ensures in
    is_frame _ _ c.in_ok-mark.mark c.requires mark.is mark.inside c.in_ok-identifier.identifier c.in_ok-identifier.ensures _ c.good_data.ensures c.if-not-good_data.false
