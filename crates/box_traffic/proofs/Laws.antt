-- A call that reads the clock: what a function on a region shows at the clock that code has read is what it shows at the memory's. Assumes nothing.
use mathlib.Core.Path.{◌≡◌, ap, ◌∙◌}
use Prim.Native.Nat.{ℕ}
use mathlib.Core.List.{List}
use lib.Dec.{T}
use Rattle.codec.specs.Word.{word_at}
use Rattle.machine.specs.Channel.{Call}
use Rattle.layout.specs.Promise.{gives, call_outcome}
use Rattle.iso_layout.specs.Promise.{iso_outcome}
use Rattle.memory.specs.Memory.{load, valid}
use Rattle.memory.proofs.Lines.{clock_is}

module _ (m : List ℕ) (v : T (valid m)) (rates r : List ℕ) (x : Call) (now c u : ℕ) (b ys : List ℕ) (t : now ≡ word_at 0 m) where
  pub raw_at_clock : gives c u b ys ≡ call_outcome rates now r x → gives c u b ys ≡ call_outcome rates (load m).clock r x
  raw_at_clock e = e ∙ ap (λ (n : ℕ). call_outcome rates n r x) (t ∙ clock_is m v)

  pub iso_at_clock : gives c u b ys ≡ iso_outcome rates now r x → gives c u b ys ≡ iso_outcome rates (load m).clock r x
  iso_at_clock e = e ∙ ap (λ (n : ℕ). iso_outcome rates n r x) (t ∙ clock_is m v)
