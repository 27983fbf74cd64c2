-- Between two events: the reader is in the recording, and what the events from its place on give goes on what was written. Assumes nothing.
use mathlib.Core.Path.{◌≡◌}
use Prim.Native.Nat.{◌+◌, ◌-◌}
use lib.ListN.{length}
use Rattle.recording_sizes.specs.Sizes.{event_room}
use Rattle.recording.proofs.Turning.{state, piece_from, Moving}
use Rattle.recording.proofs.play_events.Given as goal

abbrev pub invariant-loop-place : goal.invariant-loop-place
invariant-loop-place l = record {
  same : l.reader.recording.now ≡ l.recording;
  room : l.last + event_room ≡ length l.fn.out;
  moving : Moving l.recording l.fn.out (piece_from l.recording (state l.fn.mem l.fn.out l.fn.at 0)) (length l.recording - l.reader.at) (state l.mem l.out l.reader.at l.place);
}

abbrev pub decreases-loop-place : goal.decreases-loop-place
decreases-loop-place l = length l.recording - l.reader.at
