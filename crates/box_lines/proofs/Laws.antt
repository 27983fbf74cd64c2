-- A close: zeros over all regions are what the box does. Assumes nothing.
use mathlib.Core.Path.{◌≡◌, ap, ◌∙◌}
use Prim.Native.Nat.{ℕ, ◌-◌}
use native.Mathlib.Omega.{arith}
use mathlib.Core.List.{List, []}
use lib.ListN.{length, drop, length-drop}
use lib.Seq.{length-take-le}
use lib.Dec.{T}
use borrow.Rule.Slice.PartMut.{put_mid, mid_of}
use Rattle.codec.specs.Plain.{zeros}
use Rattle.machine.specs.Channel.{says}
use Rattle.machine.specs.Step.{close}
use Rattle.layout.specs.Sizes.{number_size}
use Rattle.layout.specs.Promise.{gives}
use Rattle.whole.proofs.Dispatch.{step_close}
use Rattle.memory.specs.Sizes.{box_size}
use Rattle.memory.specs.Memory.{load, valid}
use Rattle.memory.specs.Promise.{outcome}
use Rattle.memory.proofs.Memory.{valid_long}
use Rattle.memory.proofs.Rows.{by_step}
use Rattle.memory.proofs.Lines.{all_zeros}

pub all_closed : (rates m : List ℕ) (v : T (valid m)) (n : ℕ) → n ≡ box_size - number_size → (ys : List ℕ) → ys ≡ zeros (length (mid_of number_size n m)) → gives 0 0 [] (put_mid number_size n m ys) ≡ outcome rates m close
unfolding says
all_closed rates m v n is ys e =
    let count : length (mid_of number_size n m) ≡ n = length-take-le n (drop number_size m) (omega (arith, length-drop number_size m, valid_long m v)) in
    ap (λ (z : List ℕ). gives 0 0 [] z) (all_zeros m v n is ys (e ∙ ap (λ (k : ℕ). zeros k) count)) ∙ by_step m v rates close _ _ (step_close rates (load m))
