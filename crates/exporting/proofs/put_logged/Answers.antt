-- `exporting::put_logged` meets its contract. Assumes nothing.
use mathlib.Core.Path.{sym, ◌∙◌}
use native.Mathlib.Omega.{arith}
use Rattle.answers.proofs.Put.{put_same}
use Rattle.exporting.proofs.Events.{nothing_put, no_line, refused, a_line, line_fits}
use Rattle.exporting.proofs.put_logged.Goals as goal

pub returns-then-line-gt3 : goal.returns-then-line-gt3
returns-then-line-gt3 c =
    let a = c.args in
    put_same (sym (no_line a.time a.line a.wide a.id a.bytes.now c.if-line-gt3.true)) (nothing_put a.out.now a.place)

pub returns-then-code-ne-STATUS_NOERROR : goal.returns-then-code-ne-STATUS_NOERROR
returns-then-code-ne-STATUS_NOERROR c =
    let a = c.args in
    put_same (sym (refused a.time a.line a.wide a.id a.bytes.now c.if-line-gt3.false (λ q. c.if-code-ne-STATUS_NOERROR.true ((c.code_of-code.ensures.0 ∙ c.frame_code.ensures) ∙ q)))) (nothing_put a.out.now a.place)

pub put_line-requires : goal.put_line-requires
put_line-requires c =
    let a = c.args in
    (c.if-line-gt3.false, omega (arith, c.requires.1, line_fits a.time a.line a.wide a.id a.bytes.now c.if-line-gt3.false (sym (c.code_of-code.ensures.0 ∙ c.frame_code.ensures) ∙ c.if-code-ne-STATUS_NOERROR.false) c.requires.0))

pub returns : goal.returns
returns c =
    let a = c.args in
    put_same (sym (a_line a.time a.line a.wide a.id a.bytes.now c.if-line-gt3.false (sym (c.code_of-code.ensures.0 ∙ c.frame_code.ensures) ∙ c.if-code-ne-STATUS_NOERROR.false))) c.put_line.ensures
