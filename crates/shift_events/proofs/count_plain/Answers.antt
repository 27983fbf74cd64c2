-- `shift_events::count_plain` meets its contract. Assumes nothing.
use mathlib.Core.Path.{◌≡◌, refl, subst}
use native.Mathlib.Omega.{arith}
use Rattle.events.specs.declared.Plain.{Plain}
use Rattle.events.specs.Found.{PlainThere}
use Rattle.shift.specs.Numbers.{counted_as}
use Rattle.shift_events.proofs.Counting.{counts_disconnect, counts_close, counts_sent, another_counts, advance_counts}
use Rattle.shift_events.proofs.count_plain.Goals as goal

-- what the event lends is in the recording
there : (c : goal.In-Frame) {x : Plain} → c.args.e ≡ x → PlainThere c.args.recording.now x
there c q = subst (λ (x : Plain). PlainThere c.args.recording.now x) q c.requires.1

pub returns-in-Disconnect : goal.returns-in-Disconnect
returns-in-Disconnect c rates =
    rw c.in-Disconnect.is (counts_disconnect c.args.mem.now c.requires.0 rates c.args.numbers.now _ _ c.count_held.ensures)

pub returns-in-Close : goal.returns-in-Close
returns-in-Close c rates =
    rw c.in-Close.is (counts_close c.args.mem.now c.requires.0 rates c.args.numbers.now _ c.count_each_held.ensures)

pub returns-in-Advance : goal.returns-in-Advance
returns-in-Advance c rates =
    rw c.in-Advance.is (advance_counts c.args.mem.now c.requires.0 rates c.args.numbers.now c.requires.2 _)

pub returns-in-Frame : goal.returns-in-Frame
returns-in-Frame c rates = rw c.in-Frame.is (c.count_frame.ensures rates)

pub returns-in-StopFilter : goal.returns-in-StopFilter
unfolding counted_as
returns-in-StopFilter c rates =
    rw c.in-StopFilter.is (another_counts c.args.mem.now c.requires.0 rates c.args.numbers.now c.requires.2 _ _ refl)

pub returns-in-StopPeriodic : goal.returns-in-StopPeriodic
unfolding counted_as
returns-in-StopPeriodic c rates =
    rw c.in-StopPeriodic.is (another_counts c.args.mem.now c.requires.0 rates c.args.numbers.now c.requires.2 _ _ refl)

pub returns-in-Sent : goal.returns-in-Sent
returns-in-Sent c rates =
    rw c.in-Sent.is (counts_sent c.args.mem.now c.requires.0 rates c.args.numbers.now _ _ c.count_sent.ensures)

pub returns-in-Clear : goal.returns-in-Clear
returns-in-Clear c rates = rw c.in-Clear.is (c.count_clear.ensures rates)

pub returns-in-Set : goal.returns-in-Set
unfolding counted_as
returns-in-Set c rates =
    rw c.in-Set.is (another_counts c.args.mem.now c.requires.0 rates c.args.numbers.now c.requires.2 _ _ refl)

pub slice_bounds-count_frame-count : goal.slice_bounds-count_frame-count
slice_bounds-count_frame-count c = let h = there c c.in-Frame.is in omega arith

pub slice_bounds-count_frame-start : goal.slice_bounds-count_frame-start
slice_bounds-count_frame-start c = let h = there c c.in-Frame.is in omega arith

pub slice_bounds-count_frame-end : goal.slice_bounds-count_frame-end
slice_bounds-count_frame-end c = let h = there c c.in-Frame.is in omega arith
