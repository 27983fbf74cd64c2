-- What a reply means to the set-up, by its fields. Assumes nothing.
use Rattle.std.specs.Prelude.{if◌then◌else◌}
use mathlib.Core.Path.{◌≡◌, sym, ap, ap₂, ◌∙◌}
use Prim.Native.Nat.{ℕ, ◌%◌}
use mathlib.Core.Bool.{Bool, ◌&&◌}
use mathlib.Core.Option.{some}
use mathlib.Core.List.{List}
use lib.Dec.{eqb}
use Rattle.telegram.specs.Telegram.{positive, negative}
use Rattle.link.specs.Connection.{Asked, Trial, waits, absent, opening, connecting, replied}
use Rattle.link_replies.specs.Meaning.{Asks}

module _ (a : Asked) (n : ℕ) (s : Trial) (own rx app : ℕ) (k : Asks a own rx app) where
  pub positive_is : (d tx theirs of : ℕ) (g : Bool) → (eqb d own && eqb tx rx && eqb of app) ≡ g
      → replied a n s (some (positive d tx theirs of)) ≡ (if g then connecting a theirs 0 waits else opening a n s)
  unfolding replied
  positive_is d tx theirs of g e =
      ap (λ (b : Bool). if b then connecting a theirs 0 waits else opening a n s)
      (ap₂ (λ (x y : Bool). x && y)
      (ap₂ (λ (x y : Bool). x && y) (ap (eqb d) (sym k.own_is)) (ap (eqb tx) (sym k.rx_id_is)))
      (ap (eqb of) (sym k.application_is))
      ∙ e)

  pub negative_is : (d kind : ℕ) (rest : List ℕ) (g : Bool) → eqb d own ≡ g → replied a n s (some (negative d kind rest)) ≡ (if g then absent else opening a n s)
  unfolding replied
  negative_is d kind rest g e = ap (λ (b : Bool). if b then absent else opening a n s) (ap (eqb d) (sym k.own_is) ∙ e)
