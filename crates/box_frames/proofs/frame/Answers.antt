-- `box_frames::frame` meets its contract. Assumes nothing.
use mathlib.Core.Path.{sym}
use Rattle.std.proofs.lemmas.Result.{err_from_is_err_and}
use Rattle.codes.proofs.Laws.{not_done}
use mathlib.Core.List.{[]}
use native.Mathlib.Omega.{arith}
use Rattle.codec.proofs.Lists.{bytes_of_law}
use Rattle.memory.proofs.Memory.{valid_long}
use Rattle.box_frames.proofs.Laws.{frame_no_line, frame_refused, raw_lent_law, iso_lent, framed}
use Rattle.box_frames.proofs.frame.Goals as goal

pub offer-requires : goal.offer-requires
offer-requires c =
    raw_lent_law [] _ c.requires _ _ _ _ c.if-index-ge-LINES.false (sym c.in_ok-frame_code.ensures)

pub frame-requires : goal.frame-requires
frame-requires c =
    iso_lent [] _ c.requires _ _ _ _ c.if-index-ge-LINES.false (sym c.in_ok-frame_code.ensures) (bytes_of_law c.args.bytes.now (λ i. (c.shared_slice_known-1.given i).fits)) _ c.word_at-now.ensures.0 _ c.offer.ensures

pub returns : goal.returns
returns c rates =
    framed rates _ c.requires _ _ _ _ c.if-index-ge-LINES.false (sym c.in_ok-frame_code.ensures) (bytes_of_law c.args.bytes.now (λ i. (c.shared_slice_known-1.given i).fits)) _ c.word_at-now.ensures.0 _ c.offer.ensures _ c.frame.ensures

pub returns-then-index-ge-LINES : goal.returns-then-index-ge-LINES
returns-then-index-ge-LINES c rates = frame_no_line rates _ c.requires _ _ _ _ c.if-index-ge-LINES.true

pub returns-in_err-frame_code : goal.returns-in_err-frame_code
returns-in_err-frame_code c rates =
    let p = err_from_is_err_and c.from_residual.result c.from_residual.ensures.1 in
    rw (p.1, p.2) (frame_refused rates _ c.requires _ _ _ _ c.if-index-ge-LINES.false _ c.in_err-frame_code.ensures (not_done c.in_err-frame_code.field-0.0))

pub word_at-now-requires : goal.word_at-now-requires
word_at-now-requires c = omega (arith, valid_long _ c.requires)

pub slice_bounds-offer-end : goal.slice_bounds-offer-end
slice_bounds-offer-end c = omega (arith, valid_long _ c.requires)

pub slice_bounds-frame-end : goal.slice_bounds-frame-end
slice_bounds-frame-end c = omega (arith, valid_long _ c.requires)
