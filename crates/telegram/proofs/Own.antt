-- Our own connection telegrams: their bytes, with 0xFF in T2 and T4, and what their fields may be. Assumes nothing.
use Prim.Native.Nat.{ℕ, ◌+◌}
use mathlib.Core.Path.{◌≡◌, refl, ap}
use mathlib.Core.Bool.{Bool, ◌&&◌, and-true}
use mathlib.Core.List.{[], ◌∷◌}
use Rattle.telegram.specs.Bits.{within, bit_value, is_byte}
use Rattle.telegram.specs.Telegram.{fits, on_wire, unused_time, own_connection}

-- their bytes
pub own_wire : (ack : Bool) (bs t1 t3 : ℕ) → on_wire (own_connection ack bs t1 t3) ≡ (0xA0 + bit_value ack) ∷ bs ∷ t1 ∷ 0xFF ∷ t3 ∷ 0xFF ∷ []
unfolding on_wire unused_time own_connection
own_wire ack bs t1 t3 = refl

-- T2 and T4 always fit
pub own_fits : (ack : Bool) (bs t1 t3 : ℕ) → fits (own_connection ack bs t1 t3) ≡ within 1 15 bs && (is_byte t1 && is_byte t3)
unfolding fits unused_time own_connection
own_fits ack bs t1 t3 = ap (λ (b : Bool). within 1 15 bs && (is_byte t1 && b)) (and-true (is_byte t3))
