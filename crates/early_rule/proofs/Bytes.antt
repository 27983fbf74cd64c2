-- Data are the bytes of a number. Assumes nothing.
use mathlib.Core.Path.{◌≡◌, refl, ap, ap₂, ◌∙◌}
use Prim.Native.Nat.{ℕ, zero, suc, ◌/◌, ◌%◌, ◌<◌}
use native.Mathlib.Nat.{mod-lt}
use native.Mathlib.Omega.{arith}
use mathlib.Core.List.{List, [], ◌∷◌}
use lib.Dec.{T, ltb→lt, lt→ltb}
use lib.ListN.{length}
use lib.Pow.{high, low}
use Rattle.codec.specs.Plain.{all, is_byte}
use Rattle.codec.proofs.Tests.{left, right, join}
use Rattle.early_rule.specs.Words.{value, digits}

pub digits_long : (n x : ℕ) → length (digits n x) ≡ n
unfolding digits
digits_long zero x = refl
digits_long (suc n) x = ap suc (digits_long n (x / 256))

pub digits_bytes : (n x : ℕ) → T (all is_byte (digits n x))
unfolding digits
digits_bytes zero x = tt
digits_bytes (suc n) x = join (is_byte (x % 256)) (all is_byte (digits n (x / 256))) (lt→ltb (x % 256) 256 (mod-lt x (omega arith))) (digits_bytes n (x / 256))

pub digits_value : (d : List ℕ) → T (all is_byte d) → digits (length d) (value d) ≡ d
unfolding digits value
digits_value [] t = refl
digits_value (b ∷ d) t =
    let h : b < 256 = ltb→lt b 256 (left (is_byte b) (all is_byte d) t) in
    ap₂ (λ (x : ℕ) (y : List ℕ). x ∷ y) (low (value d) 8 h) (ap (digits (length d)) (high (value d) 8 h) ∙ digits_value d (right (is_byte b) (all is_byte d) t))
