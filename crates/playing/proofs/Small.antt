-- Small numbers: a code takes one byte. Assumes nothing.
use Prim.Native.Nat.{ℕ, ◌<◌}
use mathlib.Core.Path.{◌≡◌, refl}
use mathlib.Core.Bool.{Bool, true, false, ◌||◌}
use mathlib.Core.List.{List, [], ◌∷◌}
use native.Mathlib.Omega.{arith}
use borrow.Author.Tests.{eqb-true}
use lib.Dec.{T, eqb, ltb, ltb→lt}
use Rattle.codec.proofs.Tests.{left, right}
use Rattle.codec.specs.Plain.{member, all}
use Rattle.machine.specs.Codes.{step_codes}
use Rattle.machine.specs.Step.{Event}
use Rattle.whole.specs.Device.{Device, step}
use Rattle.whole.specs.Demands.{box_codes, box_table}
use Rattle.whole.proofs.Refusals.{codes_in_table}
use Rattle.number.specs.Number.{bytes_of}
use Rattle.number.proofs.Laws.{groups_one}

-- a number below 128 is one byte, itself
pub small_number : (v : ℕ) → v < 128 → bytes_of v ≡ v ∷ []
unfolding bytes_of
small_number v h = groups_one 4 v h

below_128 : (codes : List ℕ) → T (all (λ (k : ℕ). ltb k 128) codes) → (c : ℕ) → T (member c codes) → c < 128
unfolding member
below_128 [] h c m = absurd m
below_128 (k ∷ codes) h c m = go (below_128 codes (right (ltb k 128) _ h) c) (eqb c k) refl m
  where
    go : (T (member c codes) → c < 128) → (b : Bool) → eqb c k ≡ b → T (b || member c codes) → c < 128
    go more true q t = omega (arith, eqb-true c k q, ltb→lt k 128 (left (ltb k 128) _ h))
    go more false q t = more t

-- a code is one
pub small_code : (rates : List ℕ) (d : Device) (e : Event) → (step rates d e).1.code < 128
unfolding box_table box_codes step_codes
small_code rates d e = below_128 box_table tt (step rates d e).1.code (codes_in_table rates d e)
