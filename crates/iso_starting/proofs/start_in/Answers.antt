-- `iso_starting::start_in` meets its contract: a code leaves the region, else the conversation is the bytes of its place. Assumes nothing.
use mathlib.Core.Path.{refl}
use native.Mathlib.Omega.{arith}
use Rattle.std.proofs.lemmas.Result.{err_from_is_err_and}
use Rattle.codes.proofs.Laws.{not_done}
use Rattle.iso_starting.proofs.Laws.{start_refused, whole_records, free_zeros, started, first_place, second_place}
use Rattle.iso_starting.proofs.start_in.Goals as goal

pub returns-in_err-code_in : goal.returns-in_err-code_in
returns-in_err-code_in c =
    let a = c.args in
    let p = err_from_is_err_and c.from_residual.result c.from_residual.ensures.1 in
    λ rates t.
    rw (p.1, p.2) (start_refused a.r.now c.requires a.kind a.mask.now a.pattern.now a.flow.now _ (not_done c.in_err-code_in.field-0.0) c.in_err-code_in.ensures rates t)

pub names-requires : goal.names-requires
names-requires c =
    let a = c.args in
    (whole_records a.r.now c.requires a.kind a.mask.now a.pattern.now a.flow.now 0 refl c.in_ok-code_in.ensures).0

pub names-heard-requires : goal.names-heard-requires
names-heard-requires c =
    let a = c.args in
    (whole_records a.r.now c.requires a.kind a.mask.now a.pattern.now a.flow.now 0 refl c.in_ok-code_in.ensures).1.0

pub names-told-requires : goal.names-told-requires
names-told-requires c =
    let a = c.args in
    (whole_records a.r.now c.requires a.kind a.mask.now a.pattern.now a.flow.now 0 refl c.in_ok-code_in.ensures).1.1

pub put_talk-requires : goal.put_talk-requires
put_talk-requires c =
    let a = c.args in
    free_zeros a.r.now c.requires a.kind a.mask.now a.pattern.now a.flow.now 0 refl c.in_ok-code_in.ensures 0 (omega arith)
    (first_place a.r.now c.requires a.kind a.mask.now a.pattern.now a.flow.now 0 refl c.in_ok-code_in.ensures c.if-r-eq0.true)

pub returns-then-r-eq0 : goal.returns-then-r-eq0
returns-then-r-eq0 c =
    let a = c.args in
    started a.r.now c.requires a.kind a.mask.now a.pattern.now a.flow.now 0 refl c.in_ok-code_in.ensures 0 (omega arith)
    (first_place a.r.now c.requires a.kind a.mask.now a.pattern.now a.flow.now 0 refl c.in_ok-code_in.ensures c.if-r-eq0.true)
    _ _ _ c.names.ensures c.names-heard.ensures c.names-told.ensures _ c.put_talk.ensures

pub put_talk-requires-2 : goal.put_talk-requires-2
put_talk-requires-2 c =
    let a = c.args in
    free_zeros a.r.now c.requires a.kind a.mask.now a.pattern.now a.flow.now 0 refl c.in_ok-code_in.ensures 1 (omega arith)
    (second_place a.r.now c.requires a.kind a.mask.now a.pattern.now a.flow.now 0 refl c.in_ok-code_in.ensures c.if-r-eq0.false)

pub returns : goal.returns
returns c =
    let a = c.args in
    started a.r.now c.requires a.kind a.mask.now a.pattern.now a.flow.now 0 refl c.in_ok-code_in.ensures 1 (omega arith)
    (second_place a.r.now c.requires a.kind a.mask.now a.pattern.now a.flow.now 0 refl c.in_ok-code_in.ensures c.if-r-eq0.false)
    _ _ _ c.names.ensures c.names-heard.ensures c.names-told.ensures _ c.put_talk-2.ensures
