-- ANY TWO OUTCOMES ARE EQUAL: the time of a byte. Assumes nothing.
use Prim.Native.Nat.{ℕ}
use mathlib.Core.Path.{◌≡◌, refl}
use Rattle.codec.specs.Settled.{Settled}
use Rattle.codec.proofs.Settled.{settled}
use Rattle.telegram.specs.Telegram.{time_of}

-- `time`: the time
pub time_settled : (byte : ℕ) → Settled (λ (r : ℕ). r ≡ time_of byte)
time_settled byte = settled (λ (r : ℕ). r) (λ r. r) (λ r. refl) _
