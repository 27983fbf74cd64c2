-- `maps::none_mapped` meets its contract. The invariant: `none` says whether the places below f have none. Assumes nothing.
use mathlib.Core.Path.{◌≡◌, refl, sym, ap, ap₂, ◌∙◌}
use mathlib.Core.Bool.{Bool, not, ◌&&◌}
use Prim.Native.Nat.{ℕ}
use native.Mathlib.Numerals.{add-one}
use native.Mathlib.Omega.{arith}
use borrow.Author.Rules.{rules}
use Rattle.codec.specs.Plain.{all_below}
use Rattle.machine.specs.Limits.{most_places}
use Rattle.maps.specs.Chosen.{mapped_at, none_mapped}
use Rattle.maps.proofs.none_mapped.Goals as goal

pub loop-f-init : goal.loop-f-init
unfolding all_below
loop-f-init c = (search rules, refl)

pub loop-f-preserved : goal.loop-f-preserved
unfolding all_below
loop-f-preserved c =
    let l = c.loop-f in
    let a = c.args in
    let p : ℕ → Bool = λ k. not (mapped_at a.part.now k) in
    (search rules, ap₂ (λ (x y : Bool). x && not y) l.invariant.1 c.mapped.ensures ∙ ap (λ (n : ℕ). all_below n p) (sym (add-one l.f)))

pub returns : goal.returns
unfolding none_mapped
returns c =
    let l = c.loop-f in
    let e : l.f ≡ most_places = omega arith in
    rw e at l.invariant.1
