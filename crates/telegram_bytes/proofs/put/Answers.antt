-- `telegram_bytes::put` meets its contract. The invariant: the first i bytes are copied, the others as they were. Assumes nothing.
use Prim.Native.Nat.{ℕ}
use mathlib.Core.Path.{◌≡◌, refl, ap, ap₂, ◌∙◌}
use mathlib.Core.List.{List, ◌++◌}
use native.Mathlib.Omega.{arith}
use lib.ListN.{length, get_or, set, drop, length-set}
use lib.Seq.{take_all}
use Rattle.telegram_types.specs.Face.{over}
use Rattle.telegram_bytes.proofs.CopyLoop.{copy_more}
use Rattle.telegram_bytes.proofs.put.Goals as goal

pub loop-i-init : goal.loop-i-init
loop-i-init c = (refl, omega arith, refl)

pub loop-i-preserved : goal.loop-i-preserved
loop-i-preserved c =
    let i = c.loop-i.i in
    let s = c.args.bytes.now in
    let d₀ = c.args.buf.now in
    let inv = c.loop-i.invariant in (
      ap (λ (l : List ℕ). set l i (get_or s i 0)) inv.0 ∙ copy_more i s d₀ (omega arith) (omega arith),
      omega arith,
      length-set c.loop-i.buf i (get_or s i 0) ∙ inv.2,
    )

pub returns : goal.returns
unfolding over
returns c =
    let i = c.loop-i.i in
    let s = c.args.bytes.now in
    let d₀ = c.args.buf.now in
    let end : i ≡ length s = omega arith in
    c.loop-i.invariant.0 ∙ ap₂ (λ (a b : List ℕ). a ++ b) (take_all i s (omega arith)) (ap (λ (k : ℕ). drop k d₀) end)

pub bounds-buf-i : goal.bounds-buf-i
bounds-buf-i c = omega arith

pub shape_of-buf : goal.shape_of-buf
shape_of-buf c = c.loop-i.invariant.2
