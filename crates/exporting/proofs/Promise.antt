-- What an export answers. Assumes nothing.
use Rattle.std.specs.Prelude.{if◌then◌else◌}
use Prim.Native.Nat.{ℕ, ◌+◌, ◌*◌, ◌≤◌, ◌<◌}
use mathlib.Core.Path.{◌≡◌, refl, sym, ap, ◌∙◌}
use mathlib.Core.Bool.{Bool, true, false}
use mathlib.Core.List.{List, []}
use native.Mathlib.Omega.{arith}
use borrow.Author.Tests.{lt-ltb, le-ltb, le-leb, lt-leb}
use lib.Dec.{leb, ltb}
use lib.ListN.{length, drop}
use Rattle.recording_sizes.specs.Sizes.{longest}
use Rattle.edition.specs.Edition.{mark_size, marked, mark_at}
use Rattle.edition.proofs.Marked.{at_mark, new_start, start_inside}
use Rattle.candump.specs.Line.{second}
use Rattle.candump.specs.Log.{latest}
use Rattle.exporting.specs.Pieces.{line_room, piece, goes_on, event_at, piece_of, latest_at, Left, leaves, written, exports}

-- ---- the latest time

module _ (at : ℕ) where
  pub latest_near : at ≤ longest → latest + second * at ≡ latest_at at
  unfolding latest_at
  latest_near h = sym (rw (le-leb at longest h))

  pub latest_far : longest < at → latest + second * longest ≡ latest_at at
  unfolding latest_at
  latest_far h = sym (rw (lt-leb at longest h))

-- ---- where the events begin

module _ (s : List ℕ) (at : ℕ) where
  pub behind_mark : mark_at s at ≡ true → mark_size ≡ event_at s at
  unfolding event_at
  behind_mark e = sym (rw e)

  pub no_mark : mark_at s at ≡ false → at ≡ event_at s at
  unfolding event_at
  no_mark e = sym (rw e)

  -- it is inside the recording, and no earlier than the place
  pub event_inside : at < length s → (event_at s at ≤ length s) × (at ≤ event_at s at)
  event_inside h = by (mark_at s at) refl
    where
      by : (g : Bool) → mark_at s at ≡ g → (event_at s at ≤ length s) × (at ≤ event_at s at)
      by true e =
          let m = at_mark s at e in
          (omega (arith, behind_mark e, new_start s m.1, start_inside s), omega (arith, behind_mark e, m.0))
      by false e = (omega (arith, no_mark e), omega (arith, no_mark e))

-- ---- the promise

module _ (t : ℕ) (s : List ℕ) (at : ℕ) (b : List ℕ) where
  pub no_room : length b < line_room → leaves 0x04 at t 0 b ≡ exports t s at b
  unfolding exports
  no_room h = sym (rw (lt-ltb (length b) line_room h))

  module _ (long : line_room ≤ length b) where
    pub too_late : latest_at at < t → leaves 0x0A at t 0 b ≡ exports t s at b
    unfolding exports
    too_late h = sym (rw (le-ltb (length b) line_room long, lt-ltb (latest_at at) t h))

    module _ (early : t ≤ latest_at at) where
      pub at_end_law : length s ≤ at → leaves 0x00 at t 0 b ≡ exports t s at b
      unfolding exports piece_of written
      at_end_law h = sym (rw (le-ltb (length b) line_room long, le-ltb (latest_at at) t early, le-leb (length s) at h))

      module _ (more : at < length s) where
        pub too_long : longest < length s → leaves 0x00 (length s) t 0 b ≡ exports t s at b
        unfolding exports piece_of written
        too_long h = sym (rw (le-ltb (length b) line_room long, le-ltb (latest_at at) t early, lt-leb (length s) at more, lt-ltb longest (length s) h))

        pub is_piece : length s ≤ longest → written (goes_on (length s) s (event_at s at) t (length b)) b ≡ exports t s at b
        unfolding exports piece_of
        is_piece h = sym (rw (le-ltb (length b) line_room long, le-ltb (latest_at at) t early, lt-leb (length s) at more, le-ltb longest (length s) h))

        -- and the time is early enough where the events begin
        pub begins_early : length s ≤ longest → t ≤ latest + second * event_at s at
        begins_early h = omega (arith, latest_near at (omega arith), (event_inside s at more).1)
