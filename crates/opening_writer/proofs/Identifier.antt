-- What is written of an opening telegram, by the identifier that carries it. Assumes nothing.
use Prim.Native.Nat.{ℕ}
use mathlib.Core.Path.{◌≡◌, refl}
use mathlib.Core.Bool.{true, false}
use mathlib.Core.List.{List}
use Rattle.telegram.specs.Telegram.{Opening, is_opening_id, fields_fit, opening_fits, opening_bytes}
use Rattle.telegram_types.specs.Face.{refusal, written_if}
use Rattle.telegram_bytes.proofs.Writes.{unwritten}

-- under an identifier that opens, the fields decide
pub under_id : (id : ℕ) (o : Opening) (buffer : List ℕ) → is_opening_id id ≡ true
    → written_if (fields_fit o) (opening_bytes o) buffer ≡ written_if (opening_fits id o) (opening_bytes o) buffer
unfolding opening_fits
under_id id o buffer e = rw e

pub other_id : (id : ℕ) (o : Opening) (buffer : List ℕ) → is_opening_id id ≡ false → refusal 0x0A buffer ≡ written_if (opening_fits id o) (opening_bytes o) buffer
unfolding opening_fits
other_id id o buffer e = rw e (unwritten false (opening_bytes o) buffer refl)
