use native.Mathlib.Omega.{arith}
use Rattle.std.proofs.lemmas.Result.{err_from_is_err_and}
use Rattle.codes.proofs.Laws.{not_done}
use Rattle.connecting.proofs.Opening.{refused_open, opened_now}
use Rattle.connecting.proofs.Laws.{connect_refused, connect_in_use, connect_fresh}
use Rattle.connecting.proofs.connect_in.Goals as goal

pub returns-in_err-connect_code : goal.returns-in_err-connect_code
returns-in_err-connect_code c =
    let a = c.args in
    let p = err_from_is_err_and c.from_residual.result c.from_residual.ensures.1 in
    rw (p.1, p.2) (connect_refused a.r.now c.requires.0 c.requires.1 a.rates.now a.line a.protocol a.flags a.rate _ c.in_err-connect_code.ensures (not_done c.in_err-connect_code.field-0.0))

pub open-requires : goal.open-requires
open-requires c = omega (arith, c.requires.0)

pub returns-in_err-open : goal.returns-in_err-open
returns-in_err-open c =
    let a = c.args in
    let p = err_from_is_err_and c.from_residual-in_err-open.result c.from_residual-in_err-open.ensures.1 in
    let told = refused_open a.r.now a.flags a.rate _ _ c.in_err-open.ensures (not_done c.in_err-open.field-0.0) in
    rw (p.1, p.2, told.1.0, told.1.1) (connect_in_use a.r.now c.requires.0 c.requires.1 a.rates.now a.line a.protocol a.flags a.rate c.in_ok-connect_code.ensures told.0)

pub returns : goal.returns
returns c =
    let a = c.args in
    let told = opened_now a.r.now a.flags a.rate _ c.in_ok-open.ensures in
    rw told.1 (connect_fresh a.r.now c.requires.0 c.requires.1 a.rates.now a.line a.protocol a.flags a.rate c.in_ok-connect_code.ensures told.0)
