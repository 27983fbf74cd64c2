-- Where a promise leaves no choice. Assumes nothing.
use mathlib.Core.Path.{◌≡◌, sym, ap, ◌∙◌}
use Rattle.codec.specs.Settled.{Settled}

-- A promise that fixes what an outcome says settles the outcome, where it can be made again from what it says.
pub settled : {A B : Type 0} (says : A → B) (make : B → A) → ((a : A) → make (says a) ≡ a) → (v : B) → Settled (λ (a : A). says a ≡ v)
settled says make made v x y p q = sym (made x) ∙ ap make (p ∙ sym q) ∙ made y
