-- A row with bytes of a memory in front and zeros behind them. Assumes nothing.
use mathlib.Core.Path.{◌≡◌, sym, ap, ◌∙◌}
use Prim.Native.Nat.{ℕ, ◌+◌, ◌-◌, ◌≤◌}
use native.Mathlib.Omega.{arith}
use mathlib.Core.List.{List, ◌++◌, append-nil}
use lib.ListN.{length, take, drop, length-drop}
use lib.Seq.{length-take-le}
use Rattle.codec.specs.Plain.{zeros}
use Rattle.codec.proofs.Lists.{drop_zeros}
use Rattle.machine.specs.Limits.{most_data}
use Rattle.machine.specs.Message.{twelve}

module _ (mem : List ℕ) (at : ℕ) where
  pub row_done : (size : ℕ) (out : List ℕ) → at + size ≤ length mem → size ≤ most_data → out ≡ take size (drop at mem) ++ drop size (zeros most_data) → out ≡ twelve (take size (drop at mem))
  unfolding twelve
  row_done size out hm hs e =
      let l : length (take size (drop at mem)) ≡ size = length-take-le size (drop at mem) (omega (arith, length-drop at mem)) in
      let n : most_data ≡ size + (most_data - size) = omega arith in
      e
      ∙ ap (λ (z : List ℕ). take size (drop at mem) ++ z)
      (ap (λ (k : ℕ). drop size (zeros k)) n ∙ drop_zeros size (most_data - size) ∙ ap (λ (k : ℕ). zeros (most_data - k)) (sym l))

  -- twelve bytes have no zeros behind them
  pub whole_row : at + most_data ≤ length mem → twelve (take most_data (drop at mem)) ≡ take most_data (drop at mem)
  unfolding twelve
  whole_row h =
      let l : length (take most_data (drop at mem)) ≡ most_data = length-take-le most_data (drop at mem) (omega (arith, length-drop at mem)) in
      ap (λ (k : ℕ). take most_data (drop at mem) ++ zeros (most_data - k)) l ∙ append-nil (take most_data (drop at mem))
