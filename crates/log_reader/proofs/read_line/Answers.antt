-- `log_reader::read_line` meets its contract. Assumes nothing.
use Prim.Native.Nat.{◌+◌}
use mathlib.Core.Path.{◌≡◌, refl}
use native.Mathlib.Omega.{arith}
use Rattle.text_reader.proofs.Finding.{Found, first_there, first_missing}
use Rattle.candump.specs.Line.{blank}
use Rattle.log_reader.proofs.Parts.{Timed, time_there, no_time, ends_early, no_blank, no_second, no_word, no_frame, unknown_name, is_line}
use Rattle.log_reader.proofs.read_line.Goals as goal

pub returns-in_default : goal.returns-in_default
returns-in_default c =
    no_time _ c.read_time.result c.read_time.ensures c.in_default.is

pub returns-then-next-text : goal.returns-then-next-text
returns-then-next-text c =
    let time : Timed c.args.text.now c.in-Some.field-0.time c.in-Some.field-0.next = time_there _ c.read_time.result c.in-Some.field-0.time c.in-Some.field-0.next c.read_time.ensures c.in-Some.is in
    ends_early _ c.in-Some.field-0.time c.in-Some.field-0.next time c.if-next-text.true

pub returns-then-text-next-ne-BLANK : goal.returns-then-text-next-ne-BLANK
returns-then-text-next-ne-BLANK c =
    let time : Timed c.args.text.now c.in-Some.field-0.time c.in-Some.field-0.next = time_there _ c.read_time.result c.in-Some.field-0.time c.in-Some.field-0.next c.read_time.ensures c.in-Some.is in
    no_blank _ c.in-Some.field-0.time c.in-Some.field-0.next time c.if-next-text.false c.if-text-next-ne-BLANK.true

pub returns-in_default-find : goal.returns-in_default-find
returns-in_default-find c =
    let time : Timed c.args.text.now c.in-Some.field-0.time c.in-Some.field-0.next = time_there _ c.read_time.result c.in-Some.field-0.time c.in-Some.field-0.next c.read_time.ensures c.in-Some.is in
    no_second _ c.in-Some.field-0.time c.in-Some.field-0.next time c.if-next-text.false c.if-text-next-ne-BLANK.false _ refl (first_missing blank c.args.text.now (c.in-Some.field-0.next + 1) c.in_default-find.ensures)

pub returns-then-end-word : goal.returns-then-end-word
returns-then-end-word c =
    let time : Timed c.args.text.now c.in-Some.field-0.time c.in-Some.field-0.next = time_there _ c.read_time.result c.in-Some.field-0.time c.in-Some.field-0.next c.read_time.ensures c.in-Some.is in
    let end : Found blank c.args.text.now (c.in-Some.field-0.next + 1) c.in-Some-find.end = first_there blank c.args.text.now (c.in-Some.field-0.next + 1) c.in-Some-find.end c.in-Some-find.ensures in
    no_word _ c.in-Some.field-0.time c.in-Some.field-0.next time c.if-next-text.false c.if-text-next-ne-BLANK.false c.in-Some-find.end end.is end.inside c.if-end-word.true

pub overflow_add-end : goal.overflow_add-end
overflow_add-end c =
    let end : Found blank c.args.text.now (c.in-Some.field-0.next + 1) c.in-Some-find.end = first_there blank c.args.text.now (c.in-Some.field-0.next + 1) c.in-Some-find.end c.in-Some-find.ensures in
    record { fits = omega (arith, end.inside) }

pub read_frame-requires : goal.read_frame-requires
read_frame-requires c =
    let end : Found blank c.args.text.now (c.in-Some.field-0.next + 1) c.in-Some-find.end = first_there blank c.args.text.now (c.in-Some.field-0.next + 1) c.in-Some-find.end c.in-Some-find.ensures in
    omega (arith, end.inside)

pub returns-in_default-read_frame : goal.returns-in_default-read_frame
returns-in_default-read_frame c =
    let time : Timed c.args.text.now c.in-Some.field-0.time c.in-Some.field-0.next = time_there _ c.read_time.result c.in-Some.field-0.time c.in-Some.field-0.next c.read_time.ensures c.in-Some.is in
    let end : Found blank c.args.text.now (c.in-Some.field-0.next + 1) c.in-Some-find.end = first_there blank c.args.text.now (c.in-Some.field-0.next + 1) c.in-Some-find.end c.in-Some-find.ensures in
    no_frame _ c.in-Some.field-0.time c.in-Some.field-0.next time c.if-next-text.false c.if-text-next-ne-BLANK.false c.in-Some-find.end end.is end.inside c.if-end-word.false c.read_frame.result c.read_frame.ensures c.in_default-read_frame.is

pub slice_bounds-read_name-end : goal.slice_bounds-read_name-end
slice_bounds-read_name-end c =
    let end : Found blank c.args.text.now (c.in-Some.field-0.next + 1) c.in-Some-find.end = first_there blank c.args.text.now (c.in-Some.field-0.next + 1) c.in-Some-find.end c.in-Some-find.ensures in
    omega (arith, end.inside)

pub returns-in_default-read_name : goal.returns-in_default-read_name
returns-in_default-read_name c =
    let time : Timed c.args.text.now c.in-Some.field-0.time c.in-Some.field-0.next = time_there _ c.read_time.result c.in-Some.field-0.time c.in-Some.field-0.next c.read_time.ensures c.in-Some.is in
    let end : Found blank c.args.text.now (c.in-Some.field-0.next + 1) c.in-Some-find.end = first_there blank c.args.text.now (c.in-Some.field-0.next + 1) c.in-Some-find.end c.in-Some-find.ensures in
    unknown_name _ c.in-Some.field-0.time c.in-Some.field-0.next time c.if-next-text.false c.if-text-next-ne-BLANK.false c.in-Some-find.end end.is end.inside c.if-end-word.false c.read_frame.result c.read_frame.ensures _ _ c.in-Some-read_frame.is c.in_default-read_name.ensures

pub returns : goal.returns
returns c =
    let time : Timed c.args.text.now c.in-Some.field-0.time c.in-Some.field-0.next = time_there _ c.read_time.result c.in-Some.field-0.time c.in-Some.field-0.next c.read_time.ensures c.in-Some.is in
    let end : Found blank c.args.text.now (c.in-Some.field-0.next + 1) c.in-Some-find.end = first_there blank c.args.text.now (c.in-Some.field-0.next + 1) c.in-Some-find.end c.in-Some-find.ensures in
    is_line _ c.in-Some.field-0.time c.in-Some.field-0.next time c.if-next-text.false c.if-text-next-ne-BLANK.false c.in-Some-find.end end.is end.inside c.if-end-word.false c.read_frame.result c.read_frame.ensures _ _ c.in-Some-read_frame.is _ c.in-Some-read_name.ensures
