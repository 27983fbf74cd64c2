-- `noting::last_in` meets its contract. Assumes nothing.
use mathlib.Core.Path.{◌≡◌, refl, ap, ◌∙◌}
use mathlib.Core.List.{List, []}
use Prim.Native.Nat.{ℕ}
use lib.ListN.{get_or}
use native.Mathlib.Omega.{arith}
use Rattle.codec.specs.Code.{byte, such}
use Rattle.machine.specs.Channel.{on_open, done_with, last_error}
use Rattle.layout.specs.Sizes.{last_at}
use Rattle.layout.specs.Memory.{last_part}
use Rattle.layout.specs.Promise.{gives, Opened, call_outcome}
use Rattle.layout.proofs.Region.{open_of, byte_of, stays, last_part_law}
use Rattle.noting.proofs.last_in.Goals as goal

-- the byte at its place is the last code
last_is : (r : List ℕ) (o : Opened r) → get_or r last_at 0 ≡ (open_of r).last
unfolding last_part such byte
last_is r o = byte_of (last_part_law r o) 0 (omega arith)

told : (r : List ℕ) (o : Opened r) (rates : List ℕ) (t n : ℕ) → n ≡ get_or r last_at 0 → gives 0 n [] r ≡ call_outcome rates t r last_error
unfolding on_open done_with
told r o rates t n e = ap (λ (k : ℕ). gives 0 k [] r) (e ∙ last_is r o) ∙ stays r o rates t last_error 0 (open_of r).last [] refl

pub returns : goal.returns
returns c rates t = told _ c.requires rates t _ c.wide.ensures.0
