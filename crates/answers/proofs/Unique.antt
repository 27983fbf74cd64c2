-- ANY TWO OUTCOMES ARE EQUAL: the place that a function here gives and the buffer that it leaves. Assumes nothing.
use Prim.Native.Nat.{ℕ}
use mathlib.Core.List.{List}
use mathlib.Core.Path.{◌≡◌, sym, ap₂, ◌∙◌}
use Rattle.codec.specs.Settled.{Settled}
use Rattle.number.specs.Place.{Written}
use Rattle.answers.specs.Put.{Put}

module _ (buffer : List ℕ) (at : ℕ) where
  -- `put_number`
  pub written_settled : (value : ℕ) → Settled (λ (x : ℕ × List ℕ). Written buffer at value x.0 x.1)
  written_settled value x y p q = ap₂ (λ (n : ℕ) (b : List ℕ). (n, b)) (p.ends ∙ sym q.ends) (p.holds ∙ sym q.holds)

  -- `put_done` and `put_count`
  pub put_settled : (bytes : List ℕ) → Settled (λ (x : ℕ × List ℕ). Put buffer at bytes x.0 x.1)
  put_settled bytes x y p q = ap₂ (λ (n : ℕ) (b : List ℕ). (n, b)) (p.ends ∙ sym q.ends) (p.holds ∙ sym q.holds)
