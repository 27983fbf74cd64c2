-- Bytes looked at before a call is done on them. Assumes nothing.
use Rattle.std.specs.Prelude.{◌≡◌, false, List, ℕ, T, ⊤, Result, Ok, Err}
use Rattle.codes.specs.declared.Refusal.{Refusal}
use Rattle.codes.specs.declared.Refusal.TheVariants.{InvalidDeviceId}
use Rattle.memory.specs.Memory.{valid}

-- good exactly where they are a valid memory; else refused as no device
abbrev pub Checked : List ℕ → Result ⊤ Refusal → Type 0
Checked m (Ok done) = T (valid m)
Checked m (Err refusal) = (valid m ≡ false) × (refusal ≡ InvalidDeviceId)
