-- `maps::make` meets its contract. The invariant: the map is that of the first f places. Assumes nothing.
use mathlib.Core.Path.{◌≡◌, sym, ap, ◌∙◌}
use mathlib.Core.Logic.{⊎_elim}
use mathlib.Core.List.{List, []}
use Prim.Native.Nat.{ℕ, ◌+◌, ◌<◌}
use native.Mathlib.Omega.{arith}
use lib.ListN.{length, take}
use borrow.Author.Rules.{rules}
use Rattle.codec.specs.Plain.{zeros}
use Rattle.machine.specs.Limits.{most_places}
use Rattle.layout.specs.Memory.{filters}
use Rattle.map_rule.specs.Map.{map_bytes}
use Rattle.map_rule.proofs.ByMap.{map_long}
use Rattle.maps.proofs.Made.{none_yet, put_in, left_out, all_ten}
use Rattle.maps.proofs.make.Goals as goal

pub loop-f-init : goal.loop-f-init
loop-f-init c =
    let z = c.zero.ensures ∙ ap (λ (n : ℕ). zeros n) c.requires.1 ∙ none_yet c.args.block in
    (omega arith, ap length z ∙ map_long c.args.block [], z)

pub chosen-requires : goal.chosen-requires
chosen-requires c = (c.requires.0.long, search rules)

pub loop-f-preserved : goal.loop-f-preserved
loop-f-preserved c =
    let l = c.loop-f in
    let a = c.args in
    let m : List ℕ = a.part.now in
    let k : l.f < most_places = search rules in
    let e : c.if-chosen.map ≡ map_bytes a.block (take (l.f + 1) ((filters 0).get m)) =
    ⊎_elim
    (λ w. w.map-is ∙ put_in m c.requires.0 a.block l.f k l.map _ c.chosen.result l.invariant.2 c.chosen.ensures w.if-chosen.true w.join.ensures)
    (λ w. w.map-is ∙ left_out m c.requires.0 a.block l.f k l.map l.invariant.2 (sym c.chosen.ensures ∙ w.if-chosen.false))
    c.if-chosen.branch-raw in
    (omega arith, ap length e ∙ map_long a.block (take (l.f + 1) ((filters 0).get m)), e)

pub returns : goal.returns
returns c =
    let l = c.loop-f in
    let a = c.args in
    let e : l.f ≡ most_places = omega arith in
    λ flags. l.invariant.2 ∙ ap (λ (n : ℕ). map_bytes a.block (take n ((filters 0).get a.part.now))) e ∙ all_ten a.part.now c.requires.0 a.block flags
