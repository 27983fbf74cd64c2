-- What a move that may be refused leaves, in the two ways that it can come out. Assumes nothing.
use mathlib.Core.Path.{◌≡◌, sym, ap, ◌∙◌}
use Prim.Native.Nat.{ℕ}
use mathlib.Core.Bool.{Bool, true, false}
use mathlib.Core.Option.{Option, none, some}
use mathlib.Core.List.{List}
use Rattle.codec.specs.Code.{Code}
use Rattle.link_layout.specs.Turned.{is_there, put_or}

module _ {A : Type 0} (c : Code A) (x : Option A) (m : List ℕ) where
  pub made : (y : A) (ys : List ℕ) → x ≡ some y → ys ≡ c.put y → (true ≡ is_there x) × (ys ≡ put_or c x m)
  unfolding is_there put_or
  made y ys e q = (sym (ap is_there e), q ∙ sym (ap (λ (z : Option A). put_or c z m) e))

  pub refused : x ≡ none → (false ≡ is_there x) × (m ≡ put_or c x m)
  unfolding is_there put_or
  refused e = (sym (ap is_there e), sym (ap (λ (z : Option A). put_or c z m) e))
