-- `periodics::start_periodic` meets its contract. Assumes nothing.
use native.Mathlib.Omega.{arith}
use Rattle.std.proofs.lemmas.Result.{err_from_is_err_and}
use Rattle.codes.proofs.Laws.{not_done}
use Rattle.layout.proofs.Region.{speaks_here}
use Rattle.stores.proofs.Periodics.{lent}
use Rattle.periodics.proofs.Region.{code_is, number_is, passed, start_refused, start_full, start_done}
use Rattle.periodics.proofs.start_periodic.Goals as goal

pub word_at-requires : goal.word_at-requires
word_at-requires c = omega (arith, c.requires.is.long)

pub returns-in_err-start_code : goal.returns-in_err-start_code
returns-in_err-start_code c =
    let r = c.args.r.now in
    let p = err_from_is_err_and c.from_residual.result c.from_residual.ensures.1 in
    λ rates t.
    rw (p.1, p.2)
    (start_refused r c.requires.is c.args.message.now c.args.interval rates t _
    (code_is r c.requires.is c.args.message.now c.args.interval _ _ c.word_at.ensures.0 c.in_err-start_code.ensures) (not_done c.in_err-start_code.field-0.0))

pub first_free-i-requires : goal.first_free-i-requires
first_free-i-requires c = lent c.args.r.now c.requires.is

pub returns-then-i-ge-PLACES : goal.returns-then-i-ge-PLACES
returns-then-i-ge-PLACES c =
    let r = c.args.r.now in
    let code = code_is r c.requires.is c.args.message.now c.args.interval 0 _ c.word_at.ensures.0 c.in_ok-start_code.ensures in
    λ rates t.
    start_full r c.requires.is c.args.message.now c.args.interval rates t code _ (number_is r c.requires.is _ c.first_free-i.ensures) c.if-i-ge-PLACES.true

pub start_at-requires : goal.start_at-requires
start_at-requires c =
    let r = c.args.r.now in
    let code = code_is r c.requires.is c.args.message.now c.args.interval 0 _ c.word_at.ensures.0 c.in_ok-start_code.ensures in
    let ok = passed _ c.args.message.now c.args.interval code in
    (record { part = lent r c.requires.is; long = ok.0; good = ok.1; speaks = speaks_here r c.requires }, c.if-i-ge-PLACES.false)

pub returns : goal.returns
returns c =
    let r = c.args.r.now in
    let code = code_is r c.requires.is c.args.message.now c.args.interval 0 _ c.word_at.ensures.0 c.in_ok-start_code.ensures in
    λ rates t.
    start_done r c.requires.is c.args.message.now c.args.interval rates t code _ (number_is r c.requires.is _ c.first_free-i.ensures) c.if-i-ge-PLACES.false c.start_at.new.part c.start_at.ensures
