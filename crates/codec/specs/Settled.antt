-- ANY TWO OUTCOMES ARE EQUAL: whatever meets a promise is one value. Assumes nothing.
use Rattle.std.specs.Prelude.{◌≡◌}

abbrev pub Settled : {A : Type 0} → (A → Type 0) → Type 0
Settled {A} promised = (x y : A) → promised x → promised y → x ≡ y
