-- `importing::take_line` meets its contract. Assumes nothing.
use Prim.Native.Nat.{ℕ}
use mathlib.Core.List.{List}
use mathlib.Core.Path.{◌≡◌, ap, ◌∙◌}
use Rattle.candump.specs.Line.{line_in}
use Rattle.importing.specs.Step.{line_step}
use Rattle.importing.proofs.Far.{near_step}
use Rattle.importing.proofs.Taking.{Told, is_told, told_is, stopped_line}
use Rattle.importing.proofs.take_line.Goals as goal

pub returns-in_err-frame : goal.returns-in_err-frame
returns-in_err-frame c = stopped_line c.args.time c.args.place c.args.out.now c.args.text.now c.requires.0 c.in_err-frame.field-0.0 c.in_err-frame.ensures c.from_residual.result c.from_residual.ensures.1

-- it tells a frame
pub take_frame-requires : goal.take_frame-requires
take_frame-requires c =
    let told : Told c.args.text.now c.in_ok-frame.frame.line c.in_ok-frame.frame.digits = is_told c.args.text.now c.in_ok-frame.frame c.in_ok-frame.ensures in
    (told.good, told.bus, told.few, c.requires.1, c.requires.2)

pub returns : goal.returns
returns c =
    c.take_frame.ensures
    ∙ ap (line_step c.args.time c.args.place c.args.out.now) (told_is c.args.text.now c.in_ok-frame.frame c.in_ok-frame.ensures)
    ∙ near_step c.args.time c.args.place c.args.out.now c.requires.0 (line_in c.args.text.now)
