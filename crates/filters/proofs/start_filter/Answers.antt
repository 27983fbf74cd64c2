-- `filters::start_filter` meets its contract: a start that is refused leaves the region, one that is not puts the filter at the first empty place.
-- Assumes nothing.
use mathlib.Core.Path.{sym}
use mathlib.Core.List.{[]}
use native.Mathlib.Omega.{arith}
use Rattle.std.proofs.lemmas.Result.{err_from_is_err_and}
use Rattle.codec.proofs.Lists.{bytes_of_law}
use Rattle.codes.proofs.Laws.{not_done}
use Rattle.layout.proofs.Region.{open_of}
use Rattle.filterbank.proofs.Lent.{part_lent}
use Rattle.filtercheck.proofs.Laws.{room, checked}
use Rattle.filters.proofs.OnRegion.{place_is, code_is, not_started, start_unmapped, started}
use Rattle.filters.proofs.start_filter.Goals as goal

pub first_free-place-requires : goal.first_free-place-requires
first_free-place-requires c = part_lent c.args.r.now c.requires

pub returns-in_err-start_code : goal.returns-in_err-start_code
returns-in_err-start_code c =
    let a = c.args in
    let r = a.r.now in
    let place = place_is r c.requires _ c.first_free-place.ensures in
    let p = err_from_is_err_and c.from_residual.result c.from_residual.ensures.1 in
    λ rates t.
    rw (p.1, p.2)
    (not_started r c.requires rates t a.kind a.mask.now a.pattern.now _
    (code_is r c.requires a.kind a.mask.now a.pattern.now _ _ _ c.word_at.ensures.0 place c.in_err-start_code.ensures) (not_done c.in_err-start_code.field-0.0))

pub put_filter-requires : goal.put_filter-requires
put_filter-requires c =
    let a = c.args in
    let r = a.r.now in
    let place = place_is r c.requires _ c.first_free-place.ensures in
    let good = code_is r c.requires a.kind a.mask.now a.pattern.now _ _ 0 c.word_at.ensures.0 place c.in_ok-start_code.ensures in
    (part_lent r c.requires, omega (arith, room (open_of r) a.kind a.mask.now a.pattern.now (sym good), place), checked (open_of r) a.kind a.mask.now a.pattern.now (sym good))

pub remake-requires : goal.remake-requires
remake-requires c =
    let a = c.args in
    let r = a.r.now in
    let place = place_is r c.requires _ c.first_free-place.ensures in
    let good = code_is r c.requires a.kind a.mask.now a.pattern.now _ _ 0 c.word_at.ensures.0 place c.in_ok-start_code.ensures in
    start_unmapped r c.requires [] 0 a.kind a.mask.now a.pattern.now _ good place (bytes_of_law a.mask.now (λ i. (c.type_inv.mask i).fits)) (bytes_of_law a.pattern.now (λ i. (c.type_inv.pattern i).fits))
    c.put_filter.new.part c.put_filter.ensures

pub overflow_cast-result : goal.overflow_cast-result
overflow_cast-result c =
    let a = c.args in
    let r = a.r.now in
    let place = place_is r c.requires _ c.first_free-place.ensures in
    let good = code_is r c.requires a.kind a.mask.now a.pattern.now _ _ 0 c.word_at.ensures.0 place c.in_ok-start_code.ensures in
    omega (arith, room (open_of r) a.kind a.mask.now a.pattern.now (sym good), place)

pub overflow_add-result : goal.overflow_add-result
overflow_add-result c =
    let a = c.args in
    let r = a.r.now in
    let place = place_is r c.requires _ c.first_free-place.ensures in
    let good = code_is r c.requires a.kind a.mask.now a.pattern.now _ _ 0 c.word_at.ensures.0 place c.in_ok-start_code.ensures in
    omega (arith, room (open_of r) a.kind a.mask.now a.pattern.now (sym good), place)

pub returns : goal.returns
returns c =
    let a = c.args in
    let r = a.r.now in
    let place = place_is r c.requires _ c.first_free-place.ensures in
    let good = code_is r c.requires a.kind a.mask.now a.pattern.now _ _ 0 c.word_at.ensures.0 place c.in_ok-start_code.ensures in
    λ rates t.
    started r c.requires rates t a.kind a.mask.now a.pattern.now _ good place (bytes_of_law a.mask.now (λ i. (c.type_inv.mask i).fits)) (bytes_of_law a.pattern.now (λ i. (c.type_inv.pattern i).fits))
    c.put_filter.new.part c.put_filter.ensures c.remake.new.m c.remake.ensures
