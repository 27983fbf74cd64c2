-- `telegram_answers::carried` meets its contract. Assumes nothing.
use Prim.Native.Nat.{ℕ, ◌-◌, ◌≤◌}
use mathlib.Core.Path.{ap, ◌∙◌}
use mathlib.Core.List.{List}
use native.Mathlib.Omega.{arith}
use lib.ListN.{length, drop, replicate, length-drop}
use lib.Seq.{take_all}
use Rattle.telegram_types.specs.Face.{over}
use Rattle.telegram_answers.proofs.Answers.{over_zeros}
use Rattle.telegram_answers.proofs.carried.Goals as goal

pub returns : goal.returns
returns c =
    let b = c.args.bytes.now in
    let from = c.args.from in
    let short : length (drop from b) ≤ length b - from = simp length-drop (omega arith) in
    c.put.ensures ∙ ap (λ (l : List ℕ). over l (replicate 7 0)) (take_all _ (drop from b) short) ∙ over_zeros (drop from b)
