-- `ten_places::valid` meets its contract. The invariant: the places passed are good. Assumes nothing.
use Rattle.ten_places.proofs.Ten.{places_flat, places_none, places_some}
use Rattle.ten_places.proofs.Columns.{below_more}
use Rattle.ten_places.specs.Place.{place_good}
use Rattle.codec.proofs.Lists.{bytes_of_law}
use Rattle.machine.specs.Limits.{most_places}
use Rattle.codec.specs.Plain.{all_below}
use native.Mathlib.Omega.{arith}
use Prim.Native.Nat.{ℕ}
use mathlib.Core.List.{List}
use mathlib.Core.Bool.{Bool, ◌&&◌}
use mathlib.Core.Path.{◌≡◌, refl, ap, ◌∙◌, sym}
use Rattle.ten_places.proofs.valid.Goals as goal

pub returns-then-nothing : goal.returns-then-nothing
returns-then-nothing c = places_none c.args.timed c.args.flags c.args.s.now c.requires (sym c.nothing.ensures ∙ c.if-nothing.true)

pub loop-i-init : goal.loop-i-init
unfolding all_below
loop-i-init c = (omega arith, refl)

pub loop-i-preserved : goal.loop-i-preserved
loop-i-preserved c = let p : ℕ → Bool = λ k. place_good c.args.timed c.args.flags k c.args.s.now in
    (omega arith, ap (λ (b : Bool). c.loop-i.good && b) c.place-good.ensures ∙ below_more c.loop-i.i p c.loop-i.good c.loop-i.invariant.1)

pub returns : goal.returns
returns c = let s : List ℕ = c.args.s.now in
    let e : c.loop-i.i ≡ most_places = omega arith in
    c.loop-i.invariant.1 ∙ ap (λ (n : ℕ). all_below n (λ k. place_good c.args.timed c.args.flags k s)) e
    ∙ places_flat c.args.timed c.args.flags s c.requires (bytes_of_law s (λ i. (c.shared_slice_known-1.given i).fits))

pub nothing-requires : goal.nothing-requires
nothing-requires c = places_some c.args.timed _ c.requires
