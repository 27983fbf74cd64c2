-- Which numbers fit a transfer: kinds that have no clause of their own. Assumes nothing.
use mathlib.Core.Path.{◌≡◌, refl, sym, ap, ◌∙◌}
use Prim.Native.Nat.{ℕ, zero, suc, ◌-◌, ◌≤◌, ◌<◌}
use native.Mathlib.Omega.{arith}
use mathlib.Core.Bool.{Bool, false, ◌&&◌}
use mathlib.Core.List.{List}
use lib.ListN.{length}
use lib.Dec.{eqb, leb, ltb}
use borrow.Author.Tests.{ne_eqb}
use Rattle.codec.proofs.Tests.{and_false}
use Rattle.iso.specs.Limits.{least_segmented}
use Rattle.iso_layout.specs.Region.{step_of7, still, paced, kind_fits}

module _ (n time block gap : ℕ) (waits : Bool) (b : List ℕ) where
  -- idle, or an overflow waits
  pub resting : (k : ℕ) → k < 2 → (still time block gap waits && eqb n 0 && eqb (length b) 0) ≡ kind_fits k n time block gap waits b
  resting zero h = refl
  resting (suc zero) h = refl
  resting (suc (suc k)) h = absurd (omega arith)

  -- there are kinds up to 6
  pub no_kind : (k : ℕ) → 6 < k → false ≡ kind_fits k n time block gap waits b
  no_kind k h =
      let e : suc (suc (suc (suc (suc (suc (suc (k - 7))))))) ≡ k = omega arith in
      let x : Bool = paced block gap waits && step_of7 n && ltb n (length b) && leb least_segmented (length b) && leb time gap in
      sym (ap (λ (z : Bool). x && z) (ne_eqb (suc (k - 7)) 0 (λ z. absurd (omega arith))) ∙ and_false x) ∙ ap (λ (j : ℕ). kind_fits j n time block gap waits b) e
