-- `log_reader::read_time` meets its contract. Assumes nothing.
use Prim.Native.Nat.{◌+◌, ◌-◌}
use mathlib.Core.Path.{◌≡◌, refl, sym, subst, ◌∙◌}
use native.Mathlib.Omega.{arith}
use lib.ListN.{take, drop}
use Rattle.text_reader.proofs.Finding.{Found, first_there, first_missing}
use Rattle.text_reader.proofs.Digits.{NearNumber, number_there}
use Rattle.candump.specs.Line.{point, closes}
use Rattle.log_reader.specs.Reading.{TimeReads}
use Rattle.log_reader.proofs.Timing.{nothing_there, not_opened, no_point, no_seconds, bad_seconds, not_closed, not_six, bad_micro, is_timed}
use Rattle.log_reader.proofs.read_time.Goals as goal

pub returns-then-line-lt1 : goal.returns-then-line-lt1
returns-then-line-lt1 c =
    nothing_there _ c.if-line-lt1.true

pub returns-then-line-ne-OPENS : goal.returns-then-line-ne-OPENS
returns-then-line-ne-OPENS c =
    not_opened _ c.if-line-lt1.false c.if-line-ne-OPENS.true

pub returns-in_err-dot : goal.returns-in_err-dot
returns-in_err-dot c =
    subst (TimeReads c.args.line.now) (sym c.from_residual.ensures) (no_point _ c.if-line-lt1.false c.if-line-ne-OPENS.false _ refl (first_missing point c.args.line.now 1 c.in_err-dot.ensures))

pub returns-then-dot-lt2 : goal.returns-then-dot-lt2
returns-then-dot-lt2 c =
    let dot : Found point c.args.line.now 1 c.in_ok-dot.dot = first_there point c.args.line.now 1 c.in_ok-dot.dot c.in_ok-dot.ensures in
    no_seconds _ c.if-line-lt1.false c.if-line-ne-OPENS.false c.in_ok-dot.dot dot.is dot.inside c.if-dot-lt2.true

pub slice_bounds-number-end : goal.slice_bounds-number-end
slice_bounds-number-end c =
    let dot : Found point c.args.line.now 1 c.in_ok-dot.dot = first_there point c.args.line.now 1 c.in_ok-dot.dot c.in_ok-dot.ensures in
    omega (arith, dot.inside)

pub returns-in_err-seconds : goal.returns-in_err-seconds
returns-in_err-seconds c =
    let dot : Found point c.args.line.now 1 c.in_ok-dot.dot = first_there point c.args.line.now 1 c.in_ok-dot.dot c.in_ok-dot.ensures in
    subst (TimeReads c.args.line.now) (sym c.from_residual-in_err-seconds.ensures) (bad_seconds _ c.if-line-lt1.false c.if-line-ne-OPENS.false c.in_ok-dot.dot dot.is dot.inside c.if-dot-lt2.false c.in_err-seconds.ensures)

pub find-requires-2 : goal.find-requires-2
find-requires-2 c =
    let dot : Found point c.args.line.now 1 c.in_ok-dot.dot = first_there point c.args.line.now 1 c.in_ok-dot.dot c.in_ok-dot.ensures in
    omega (arith, dot.inside)

pub returns-in_err-end : goal.returns-in_err-end
returns-in_err-end c =
    let dot : Found point c.args.line.now 1 c.in_ok-dot.dot = first_there point c.args.line.now 1 c.in_ok-dot.dot c.in_ok-dot.ensures in
    let seconds : NearNumber 10 (take (c.in_ok-dot.dot - 1) (drop 1 c.args.line.now)) c.in_ok-seconds.seconds = number_there 10 _ c.in_ok-seconds.seconds c.in_ok-seconds.ensures in
    subst (TimeReads c.args.line.now) (sym c.from_residual-in_err-end.ensures) (not_closed _ c.if-line-lt1.false c.if-line-ne-OPENS.false c.in_ok-dot.dot dot.is dot.inside c.if-dot-lt2.false _ seconds _ refl (first_missing closes c.args.line.now (c.in_ok-dot.dot + 1) c.in_err-end.ensures))

pub overflow_sub-end : goal.overflow_sub-end
overflow_sub-end c =
    let end : Found closes c.args.line.now (c.in_ok-dot.dot + 1) c.in_ok-end.end = first_there closes c.args.line.now (c.in_ok-dot.dot + 1) c.in_ok-end.end c.in_ok-end.ensures in
    omega (arith, end.is)

pub returns-then-end-from-ne-DECIMALS : goal.returns-then-end-from-ne-DECIMALS
returns-then-end-from-ne-DECIMALS c =
    let dot : Found point c.args.line.now 1 c.in_ok-dot.dot = first_there point c.args.line.now 1 c.in_ok-dot.dot c.in_ok-dot.ensures in
    let seconds : NearNumber 10 (take (c.in_ok-dot.dot - 1) (drop 1 c.args.line.now)) c.in_ok-seconds.seconds = number_there 10 _ c.in_ok-seconds.seconds c.in_ok-seconds.ensures in
    let end : Found closes c.args.line.now (c.in_ok-dot.dot + 1) c.in_ok-end.end = first_there closes c.args.line.now (c.in_ok-dot.dot + 1) c.in_ok-end.end c.in_ok-end.ensures in
    not_six _ c.if-line-lt1.false c.if-line-ne-OPENS.false c.in_ok-dot.dot dot.is dot.inside c.if-dot-lt2.false _ seconds c.in_ok-end.end end.is end.inside c.if-end-from-ne-DECIMALS.true

pub slice_bounds-number-end-2 : goal.slice_bounds-number-end-2
slice_bounds-number-end-2 c =
    let end : Found closes c.args.line.now (c.in_ok-dot.dot + 1) c.in_ok-end.end = first_there closes c.args.line.now (c.in_ok-dot.dot + 1) c.in_ok-end.end c.in_ok-end.ensures in
    omega (arith, end.inside)

pub returns-in_err-micro : goal.returns-in_err-micro
returns-in_err-micro c =
    let dot : Found point c.args.line.now 1 c.in_ok-dot.dot = first_there point c.args.line.now 1 c.in_ok-dot.dot c.in_ok-dot.ensures in
    let seconds : NearNumber 10 (take (c.in_ok-dot.dot - 1) (drop 1 c.args.line.now)) c.in_ok-seconds.seconds = number_there 10 _ c.in_ok-seconds.seconds c.in_ok-seconds.ensures in
    let end : Found closes c.args.line.now (c.in_ok-dot.dot + 1) c.in_ok-end.end = first_there closes c.args.line.now (c.in_ok-dot.dot + 1) c.in_ok-end.end c.in_ok-end.ensures in
    subst (TimeReads c.args.line.now) (sym c.from_residual-in_err-micro.ensures) (bad_micro _ c.if-line-lt1.false c.if-line-ne-OPENS.false c.in_ok-dot.dot dot.is dot.inside c.if-dot-lt2.false _ seconds c.in_ok-end.end end.is end.inside c.if-end-from-ne-DECIMALS.false c.in_err-micro.ensures)

pub overflow_mul-result : goal.overflow_mul-result
overflow_mul-result c =
    let seconds : NearNumber 10 (take (c.in_ok-dot.dot - 1) (drop 1 c.args.line.now)) c.in_ok-seconds.seconds = number_there 10 _ c.in_ok-seconds.seconds c.in_ok-seconds.ensures in
    record { fits = omega (arith, seconds.small) }

pub overflow_add-result : goal.overflow_add-result
overflow_add-result c =
    let seconds : NearNumber 10 (take (c.in_ok-dot.dot - 1) (drop 1 c.args.line.now)) c.in_ok-seconds.seconds = number_there 10 _ c.in_ok-seconds.seconds c.in_ok-seconds.ensures in
    let micro : NearNumber 10 (take (c.in_ok-end.end - (c.in_ok-dot.dot + 1)) (drop (c.in_ok-dot.dot + 1) c.args.line.now)) c.in_ok-micro.micro = number_there 10 _ c.in_ok-micro.micro c.in_ok-micro.ensures in
    record { fits = omega (arith, seconds.small, micro.small) }

pub returns : goal.returns
returns c =
    let dot : Found point c.args.line.now 1 c.in_ok-dot.dot = first_there point c.args.line.now 1 c.in_ok-dot.dot c.in_ok-dot.ensures in
    let seconds : NearNumber 10 (take (c.in_ok-dot.dot - 1) (drop 1 c.args.line.now)) c.in_ok-seconds.seconds = number_there 10 _ c.in_ok-seconds.seconds c.in_ok-seconds.ensures in
    let end : Found closes c.args.line.now (c.in_ok-dot.dot + 1) c.in_ok-end.end = first_there closes c.args.line.now (c.in_ok-dot.dot + 1) c.in_ok-end.end c.in_ok-end.ensures in
    let micro : NearNumber 10 (take (c.in_ok-end.end - (c.in_ok-dot.dot + 1)) (drop (c.in_ok-dot.dot + 1) c.args.line.now)) c.in_ok-micro.micro = number_there 10 _ c.in_ok-micro.micro c.in_ok-micro.ensures in
    is_timed _ c.if-line-lt1.false c.if-line-ne-OPENS.false c.in_ok-dot.dot dot.is dot.inside c.if-dot-lt2.false _ seconds c.in_ok-end.end end.is end.inside c.if-end-from-ne-DECIMALS.false _ micro
