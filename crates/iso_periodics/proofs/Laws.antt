-- The calls of periodics leave an open ISO 15765 channel as it is. Assumes nothing.
use mathlib.Core.Path.{◌≡◌, refl}
use Prim.Native.Nat.{ℕ, ◌≤◌, ◌<◌}
use mathlib.Core.List.{List, []}
use lib.ListN.{length}
use borrow.Author.Tests.{lt-ltb, le-ltb}
use Rattle.machine.specs.Codes.{code_of}
use Rattle.machine.specs.Channel.{start_periodic, stop_periodic}
use Rattle.layout.specs.Promise.{gives}
use Rattle.iso.specs.Limits.{iso_record_size}
use Rattle.iso.specs.Iso.{shorter_iso, on_ready}
use Rattle.iso_layout.specs.Promise.{IsoOpened, iso_outcome}
use Rattle.iso_layout.proofs.Region.{stays}

module _ (r : List ℕ) (f : IsoOpened r) (rates : List ℕ) (t : ℕ) where
  pub short_start : (m : List ℕ) (interval : ℕ) → length m < iso_record_size → gives 0x04 0 [] r ≡ iso_outcome rates t r (start_periodic m interval)
  unfolding on_ready shorter_iso code_of
  short_start m interval h = stays r f rates t (start_periodic m interval) 0x04 0 [] (rw (lt-ltb (length m) iso_record_size h) refl)

  pub no_start : (m : List ℕ) (interval : ℕ) → iso_record_size ≤ length m → gives 0x01 0 [] r ≡ iso_outcome rates t r (start_periodic m interval)
  unfolding on_ready shorter_iso code_of
  no_start m interval h = stays r f rates t (start_periodic m interval) 0x01 0 [] (rw (le-ltb (length m) iso_record_size h) refl)

  pub no_stop : (number : ℕ) → gives 0x0D 0 [] r ≡ iso_outcome rates t r (stop_periodic number)
  unfolding on_ready
  no_stop number = stays r f rates t (stop_periodic number) 0x0D 0 [] refl
