-- The bytes of a record by its channel's number. Assumes nothing.
use Rattle.std.specs.Prelude.{if◌then◌else◌}
use Prim.Native.Nat.{ℕ, ◌≤◌}
use mathlib.Core.Bool.{Bool, true, false}
use mathlib.Core.Path.{◌≡◌}
use native.Mathlib.Omega.{arith}
use Rattle.machine.specs.Limits.{record_size}
use Rattle.iso.specs.Limits.{iso_record_size}
use Rattle.recording_sizes.specs.Sizes.{on_iso, record_on}

module _ (channel : ℕ) where
  -- 536 on channels 5 to 8, 36 on the others
  pub record_iso : on_iso channel ≡ true → record_on channel ≡ iso_record_size
  unfolding record_on
  record_iso e = rw e

  pub record_raw : on_iso channel ≡ false → record_on channel ≡ record_size
  unfolding record_on
  record_raw e = rw e

  -- some bytes, and never more than 536
  bounds : (1 ≤ record_on channel) × (record_on channel ≤ iso_record_size)
  unfolding record_on
  bounds = go (on_iso channel)
    where
      go : (b : Bool) → (1 ≤ (if b then iso_record_size else record_size)) × ((if b then iso_record_size else record_size) ≤ iso_record_size)
      go true = (omega arith, omega arith)
      go false = (omega arith, omega arith)

  -- so is a size that is the channel's
  module _ {size : ℕ} (e : size ≡ record_on channel) where
    pub record_some : 1 ≤ size
    record_some = rw e bounds.0

    pub record_fits : size ≤ iso_record_size
    record_fits = rw e bounds.1
