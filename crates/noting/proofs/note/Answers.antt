-- `noting::note` meets its contract. Assumes nothing.
use mathlib.Core.Path.{◌≡◌, refl, sym, ap}
use Prim.Native.Nat.{ℕ, zero, suc, ◌+◌}
use mathlib.Core.List.{List}
use lib.ListN.{set}
use Rattle.layout.specs.Sizes.{last_at}
use Rattle.layout.specs.Promise.{noted_in}
use Rattle.noting.proofs.note.Goals as goal

nothing : (at code : ℕ) (m : List ℕ) → code ≡ 0 → m ≡ noted_in at code m
unfolding noted_in
nothing at code m e = sym (ap (λ (k : ℕ). noted_in at k m) e)

stored : (at code : ℕ) (m : List ℕ) → (code ≡ 0 → ⊥) → set m (at + last_at) code ≡ noted_in at code m
unfolding noted_in
stored at zero m n = absurd (n refl)
stored at (suc k) m n = refl

pub returns-then-code-eq-STATUS_NOERROR : goal.returns-then-code-eq-STATUS_NOERROR
returns-then-code-eq-STATUS_NOERROR c = nothing _ _ _ c.if-code-eq-STATUS_NOERROR.true

pub returns : goal.returns
returns c = stored _ _ _ c.if-code-eq-STATUS_NOERROR.false
