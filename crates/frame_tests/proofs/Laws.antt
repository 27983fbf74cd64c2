-- What a frame's tests give. Assumes nothing.
use mathlib.Core.Path.{◌≡◌, refl}
use Prim.Native.Nat.{ℕ, ◌≤◌, ◌<◌}
use mathlib.Core.List.{List}
use lib.ListN.{length}
use lib.Dec.{eqb}
use borrow.Author.Tests.{lt-ltb, le-ltb}
use Rattle.machine.specs.Codes.{code_of}
use Rattle.machine.specs.Limits.{most_bytes}
use Rattle.machine.specs.Message.{id_limit}
use Rattle.machine.specs.Channel.{frame_code}

module _ (w id : ℕ) (b : List ℕ) where
  pub bad_width : 1 < w → 0x0A ≡ frame_code w id b
  unfolding frame_code code_of
  bad_width h = rw (lt-ltb 1 w h)

  pub bad_id : w ≤ 1 → id_limit (eqb w 1) < id → 0x0A ≡ frame_code w id b
  unfolding frame_code code_of
  bad_id h g = rw (le-ltb 1 w h) (rw (lt-ltb (id_limit (eqb w 1)) id g) refl)

  pub bad_length : w ≤ 1 → id ≤ id_limit (eqb w 1) → most_bytes < length b → 0x0A ≡ frame_code w id b
  unfolding frame_code code_of
  bad_length h g l = rw (le-ltb 1 w h) (rw (le-ltb (id_limit (eqb w 1)) id g) (rw (lt-ltb most_bytes (length b) l) refl))

  pub good_frame : w ≤ 1 → id ≤ id_limit (eqb w 1) → length b ≤ most_bytes → 0x00 ≡ frame_code w id b
  unfolding frame_code code_of
  good_frame h g l = rw (le-ltb 1 w h) (rw (le-ltb (id_limit (eqb w 1)) id g) (rw (le-ltb most_bytes (length b) l) refl))
