-- `talks::code_in` meets its contract: its tests are those of a start, in their order. Assumes nothing.
use mathlib.Core.Path.{refl, sym, ap, ap₂, ◌∙◌}
use mathlib.Core.List.{[], ◌∷◌}
use Prim.Native.Nat.{◌+◌}
use lib.Dec.{eqb}
use Rattle.iso_layout.specs.Sizes.{talks_at, talk_size}
use mathlib.Core.Bool.{Bool, not, ◌&&◌}
use native.Mathlib.Omega.{arith}
use Rattle.std.proofs.lemmas.Result.{err_from_is_err_and}
use Rattle.codes.proofs.Laws.{not_done}
use lib.ListN.{length, get_or}
use Rattle.machine.specs.Codes.{code_of}
use Rattle.talks.proofs.Laws.{records_long, short_there, records_refuse, places_say}
use Rattle.talks.proofs.code_in.Goals as goal

pub returns-then-mask-pattern : goal.returns-then-mask-pattern
returns-then-mask-pattern c =
    let a = c.args in
    λ o e. short_there a.r.now c.requires a.kind a.mask.now a.pattern.now a.flow.now c.if-mask-pattern.true o

pub names-m-requires : goal.names-m-requires
names-m-requires c =
    let a = c.args in
    (records_long (length a.mask.now) (length a.pattern.now) (length a.flow.now) c.if-mask-pattern.false).0

pub names-p-requires : goal.names-p-requires
names-p-requires c =
    let a = c.args in
    (records_long (length a.mask.now) (length a.pattern.now) (length a.flow.now) c.if-mask-pattern.false).1.0

pub names-f-requires : goal.names-f-requires
names-f-requires c =
    let a = c.args in
    (records_long (length a.mask.now) (length a.pattern.now) (length a.flow.now) c.if-mask-pattern.false).1.1

pub returns-in_err-start_code : goal.returns-in_err-start_code
returns-in_err-start_code c =
    let a = c.args in
    let p = err_from_is_err_and c.from_residual.result c.from_residual.ensures.1 in
    λ o e.
    rw (p.1, p.2)
    (records_refuse a.r.now c.requires a.kind a.mask.now a.pattern.now a.flow.now c.if-mask-pattern.false _ _ _ c.names-m.ensures c.names-p.ensures
    c.names-f.ensures _ c.word_at.ensures.0 _ c.in_err-start_code.ensures (not_done c.in_err-start_code.field-0.0) o e)

pub returns-then-first-second : goal.returns-then-first-second
unfolding code_of
returns-then-first-second c =
    let a = c.args in
    λ o e.
    sym (ap (λ (u : Bool). code_of ((u, 0x18) ∷ ((not (eqb (get_or a.r.now talks_at 0) 0) && not (eqb (get_or a.r.now (talks_at + talk_size) 0) 0)), 0x0C) ∷ [])) c.if-first-second.true) ∙
    places_say a.r.now c.requires a.kind a.mask.now a.pattern.now a.flow.now c.if-mask-pattern.false _ _ _ c.names-m.ensures c.names-p.ensures
    c.names-f.ensures _ c.word_at.ensures.0 0 c.in_ok-start_code.ensures refl c.is_known-first.result c.is_known-second.result c.is_known-first.ensures c.is_known-second.ensures o e

pub bounds-r-10 : goal.bounds-r-10
bounds-r-10 c =
    let l = c.requires.long in omega arith

pub bounds-r-550 : goal.bounds-r-550
bounds-r-550 c =
    let l = c.requires.long in omega arith

pub returns-then-r : goal.returns-then-r
unfolding code_of
returns-then-r c =
    let a = c.args in
    λ o e.
    sym (ap₂ (λ (u v : Bool). code_of ((u, 0x18) ∷ (v, 0x0C) ∷ [])) c.if-first-second.false c.if-r.true) ∙
    places_say a.r.now c.requires a.kind a.mask.now a.pattern.now a.flow.now c.if-mask-pattern.false _ _ _ c.names-m.ensures c.names-p.ensures
    c.names-f.ensures _ c.word_at.ensures.0 0 c.in_ok-start_code.ensures refl c.is_known-first.result c.is_known-second.result c.is_known-first.ensures c.is_known-second.ensures o e

pub returns : goal.returns
unfolding code_of
returns c =
    let a = c.args in
    λ o e.
    sym (ap₂ (λ (u v : Bool). code_of ((u, 0x18) ∷ (v, 0x0C) ∷ [])) c.if-first-second.false c.if-r.false) ∙
    places_say a.r.now c.requires a.kind a.mask.now a.pattern.now a.flow.now c.if-mask-pattern.false _ _ _ c.names-m.ensures c.names-p.ensures
    c.names-f.ensures _ c.word_at.ensures.0 0 c.in_ok-start_code.ensures refl c.is_known-first.result c.is_known-second.result c.is_known-first.ensures c.is_known-second.ensures o e
