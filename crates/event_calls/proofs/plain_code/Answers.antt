-- `event_calls::plain_code` meets its contract. Each event is the call of its name. Assumes nothing.
use Prim.Native.Nat.{ℕ}
use mathlib.Core.List.{List}
use mathlib.Core.Path.{◌≡◌, subst}
use native.Mathlib.Omega.{arith}
use Rattle.events.specs.declared.Plain.{Plain}
use Rattle.events.specs.Found.{PlainThere}
use Rattle.event_calls.proofs.plain_code.Goals as goal

-- what the event lends is in the recording, by whichever name the event goes
there : (recording : List ℕ) {e x : Plain} → PlainThere recording e → e ≡ x → PlainThere recording x
there recording f q = subst (PlainThere recording) q f

pub slice_bounds-frame-count : goal.slice_bounds-frame-count
slice_bounds-frame-count c = let h = there c.args.recording.now c.requires.1 c.in-Frame.is in omega arith

pub slice_bounds-frame-start : goal.slice_bounds-frame-start
slice_bounds-frame-start c = let h = there c.args.recording.now c.requires.1 c.in-Frame.is in omega arith

pub slice_bounds-frame-end : goal.slice_bounds-frame-end
slice_bounds-frame-end c = let h = there c.args.recording.now c.requires.1 c.in-Frame.is in omega arith

pub returns-in-Disconnect : goal.returns-in-Disconnect
returns-in-Disconnect c = rw c.in-Disconnect.is (c.disconnect.ensures _)

pub returns-in-Close : goal.returns-in-Close
returns-in-Close c = rw c.in-Close.is (c.close.ensures _)

pub returns-in-Advance : goal.returns-in-Advance
returns-in-Advance c = rw c.in-Advance.is (c.advance.ensures _)

pub returns-in-Frame : goal.returns-in-Frame
returns-in-Frame c = rw c.in-Frame.is (c.frame.ensures _)

pub returns-in-StopFilter : goal.returns-in-StopFilter
returns-in-StopFilter c = rw c.in-StopFilter.is (c.stop_filter.ensures _)

pub returns-in-StopPeriodic : goal.returns-in-StopPeriodic
returns-in-StopPeriodic c = rw c.in-StopPeriodic.is (c.stop_periodic.ensures _)

pub returns-in-Sent : goal.returns-in-Sent
returns-in-Sent c = rw c.in-Sent.is (c.sent.ensures _)

pub returns-in-Clear : goal.returns-in-Clear
returns-in-Clear c = rw c.in-Clear.is (c.clear.ensures _)

pub returns-in-Set : goal.returns-in-Set
returns-in-Set c = rw c.in-Set.is c.set.ensures
