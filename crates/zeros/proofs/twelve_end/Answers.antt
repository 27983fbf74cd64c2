-- `zeros::twelve_end` meets its contract: eight bytes, then four. Assumes nothing.
use Rattle.zeros.proofs.Tail.{four_end, twelve_end_law}
use Rattle.codec.specs.Plain.{all_zero}
use native.Mathlib.Omega.{arith}
use lib.ListN.{take, drop}
use lib.Dec.{eqb}
use Prim.Native.Nat.{ℕ, ◌+◌, ◌*◌, ◌-◌, ◌/◌, ◌^◌, min}
use mathlib.Core.List.{List}
use mathlib.Core.Bool.{Bool, ◌&&◌}
use mathlib.Core.Path.{ap, ap₂, ◌∙◌}
use Rattle.zeros.proofs.twelve_end.Goals as goal

pub returns : goal.returns
returns c = let s : List ℕ = c.args.s.now in
    let at : ℕ = c.args.at in
    let n : ℕ = c.args.n in
    let low = c.least-low.ensures in
    let w = c.word_at.ensures in
    let first = c.eight_end.ensures ∙ ap (λ (k : ℕ). all_zero (drop k (take 8 (drop at s)))) low in
    let second = c.fits_bytes.ensures ∙ (λ j. eqb (w.0 j / 2 ^ (8 * (n - low j))) 0) ∙ four_end s w.1 (at + 8) (n - min n 8) (omega arith) in
    ap₂ (λ (x y : Bool). x && y) first second ∙ twelve_end_law n at s c.requires.0
