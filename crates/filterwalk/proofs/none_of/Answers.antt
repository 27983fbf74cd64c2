-- `filterwalk::none_of` meets its contract. The invariant: `none` says whether the places below f have none. Assumes nothing.
use mathlib.Core.Path.{◌≡◌, refl, sym, ap, ◌∙◌}
use mathlib.Core.Bool.{Bool, not, ◌&&◌}
use Prim.Native.Nat.{ℕ}
use native.Mathlib.Numerals.{add-one}
use native.Mathlib.Omega.{arith}
use lib.Dec.{eqb}
use lib.ListN.{get_or}
use borrow.Author.Rules.{rules}
use Rattle.codec.specs.Plain.{all_below}
use Rattle.machine.specs.Limits.{most_places}
use Rattle.filterwalk.specs.Columns.{none_of}
use Rattle.filterwalk.proofs.none_of.Goals as goal

pub loop-f-init : goal.loop-f-init
unfolding all_below
loop-f-init c = (search rules, refl)

pub loop-f-preserved : goal.loop-f-preserved
unfolding all_below
loop-f-preserved c =
    let l = c.loop-f in
    let a = c.args in
    let p : ℕ → Bool = λ k. not (eqb (get_or a.heads.now k 0) a.kind) in
    (search rules, ap (λ (b : Bool). b && p l.f) l.invariant.1 ∙ ap (λ (n : ℕ). all_below n p) (sym (add-one l.f)))

pub returns : goal.returns
unfolding none_of
returns c =
    let l = c.loop-f in
    let e : l.f ≡ most_places = omega arith in
    rw e at l.invariant.1
