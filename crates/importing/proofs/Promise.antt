-- What an import answers that takes nothing. Assumes nothing.
use Rattle.std.specs.Prelude.{if◌then◌else◌}
use Prim.Native.Nat.{ℕ, ◌≤◌, ◌<◌}
use mathlib.Core.Path.{◌≡◌, sym}
use mathlib.Core.List.{List}
use borrow.Author.Tests.{lt-ltb, le-ltb}
use lib.Dec.{ltb}
use lib.ListN.{length}
use Rattle.candump.specs.Log.{latest, room, imported}
use Rattle.importing.specs.Promise.{Answer, answers, written, imports}

module _ (start : ℕ) (log buffer : List ℕ) where
  pub no_room : length buffer < room → answers 0x04 0 0 0 buffer ≡ imports start log buffer
  unfolding imports
  no_room h = sym (rw (lt-ltb (length buffer) room h))

  module _ (long : room ≤ length buffer) where
    pub too_late : latest < start → answers 0x0A 0 0 0 buffer ≡ imports start log buffer
    unfolding imports
    too_late h = sym (rw (le-ltb (length buffer) room long, lt-ltb latest start h))

    pub is_import : start ≤ latest → written (imported start log) buffer ≡ imports start log buffer
    unfolding imports
    is_import h = sym (rw (le-ltb (length buffer) room long, le-ltb latest start h))
