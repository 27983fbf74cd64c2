-- `map_bands::same` meets its contract. The invariant: the bytes passed are the same exactly where the OR of their differences is 0. Assumes nothing.
use borrow.Author.Rules.{rules}
use mathlib.Core.Path.{refl, ◌∙◌, ap₂}
use Prim.Native.Nat.{◌≤◌}
use native.Mathlib.Omega.{arith}
use lib.ListN.{length}
use lib.Seq.{take_all}
use Rattle.derived.specs.Derived.{same_bytes}
use Rattle.map_bands.proofs.Alike.{alike_more}
use Rattle.map_bands.proofs.same.Goals as goal

pub loop-i-init : goal.loop-i-init
unfolding same_bytes
loop-i-init c = (search rules, refl)

pub loop-i-preserved : goal.loop-i-preserved
loop-i-preserved c =
    let l = c.loop-i in
    let a = c.args in
    (search rules, alike_more a.a.now a.b.now l.i l.d (search rules) (search rules) l.invariant.1)

pub returns : goal.returns
returns c =
    let l = c.loop-i in
    let a = c.args in
    let x : length a.a.now ≤ l.i = search rules in
    let y : length a.b.now ≤ l.i = omega arith in
    l.invariant.1 ∙ ap₂ same_bytes (take_all l.i a.a.now x) (take_all l.i a.b.now y)
