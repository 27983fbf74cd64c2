-- `event_calls::giving_answer` meets its contract. Each event is the call of its name. Assumes nothing.
use Prim.Native.Nat.{ℕ}
use mathlib.Core.List.{List}
use mathlib.Core.Path.{◌≡◌, subst}
use native.Mathlib.Omega.{arith}
use Rattle.events.specs.declared.Giving.{Giving}
use Rattle.events.specs.Found.{GivingThere}
use Rattle.event_calls.proofs.giving_answer.Goals as goal

-- what the event lends is in the recording, by whichever name the event goes
there : (recording : List ℕ) {e x : Giving} → GivingThere recording e → e ≡ x → GivingThere recording x
there recording f q = subst (GivingThere recording) q f

pub slice_bounds-start_filter-count : goal.slice_bounds-start_filter-count
slice_bounds-start_filter-count c = let h = there c.args.recording.now c.requires.1 c.in-StartFilter.is in omega arith

pub slice_bounds-start_filter-start : goal.slice_bounds-start_filter-start
slice_bounds-start_filter-start c = let h = there c.args.recording.now c.requires.1 c.in-StartFilter.is in omega arith

pub slice_bounds-start_filter-end : goal.slice_bounds-start_filter-end
slice_bounds-start_filter-end c = let h = there c.args.recording.now c.requires.1 c.in-StartFilter.is in omega arith

pub slice_bounds-start_filter-count-in-StartFilter : goal.slice_bounds-start_filter-count-in-StartFilter
slice_bounds-start_filter-count-in-StartFilter c = let h = there c.args.recording.now c.requires.1 c.in-StartFilter.is in omega arith

pub slice_bounds-start_filter-start-in-StartFilter : goal.slice_bounds-start_filter-start-in-StartFilter
slice_bounds-start_filter-start-in-StartFilter c = let h = there c.args.recording.now c.requires.1 c.in-StartFilter.is in omega arith

pub slice_bounds-start_filter-end-in-StartFilter : goal.slice_bounds-start_filter-end-in-StartFilter
slice_bounds-start_filter-end-in-StartFilter c = let h = there c.args.recording.now c.requires.1 c.in-StartFilter.is in omega arith

pub slice_bounds-start_flow_filter-count : goal.slice_bounds-start_flow_filter-count
slice_bounds-start_flow_filter-count c = let h = there c.args.recording.now c.requires.1 c.in-StartFlow.is in omega arith

pub slice_bounds-start_flow_filter-start : goal.slice_bounds-start_flow_filter-start
slice_bounds-start_flow_filter-start c = let h = there c.args.recording.now c.requires.1 c.in-StartFlow.is in omega arith

pub slice_bounds-start_flow_filter-end : goal.slice_bounds-start_flow_filter-end
slice_bounds-start_flow_filter-end c = let h = there c.args.recording.now c.requires.1 c.in-StartFlow.is in omega arith

pub slice_bounds-start_flow_filter-count-in-StartFlow : goal.slice_bounds-start_flow_filter-count-in-StartFlow
slice_bounds-start_flow_filter-count-in-StartFlow c = let h = there c.args.recording.now c.requires.1 c.in-StartFlow.is in omega arith

pub slice_bounds-start_flow_filter-start-in-StartFlow : goal.slice_bounds-start_flow_filter-start-in-StartFlow
slice_bounds-start_flow_filter-start-in-StartFlow c = let h = there c.args.recording.now c.requires.1 c.in-StartFlow.is in omega arith

pub slice_bounds-start_flow_filter-end-in-StartFlow : goal.slice_bounds-start_flow_filter-end-in-StartFlow
slice_bounds-start_flow_filter-end-in-StartFlow c = let h = there c.args.recording.now c.requires.1 c.in-StartFlow.is in omega arith

pub slice_bounds-start_flow_filter-count-in-StartFlow-2 : goal.slice_bounds-start_flow_filter-count-in-StartFlow-2
slice_bounds-start_flow_filter-count-in-StartFlow-2 c = let h = there c.args.recording.now c.requires.1 c.in-StartFlow.is in omega arith

pub slice_bounds-start_flow_filter-start-in-StartFlow-2 : goal.slice_bounds-start_flow_filter-start-in-StartFlow-2
slice_bounds-start_flow_filter-start-in-StartFlow-2 c = let h = there c.args.recording.now c.requires.1 c.in-StartFlow.is in omega arith

pub slice_bounds-start_flow_filter-end-in-StartFlow-2 : goal.slice_bounds-start_flow_filter-end-in-StartFlow-2
slice_bounds-start_flow_filter-end-in-StartFlow-2 c = let h = there c.args.recording.now c.requires.1 c.in-StartFlow.is in omega arith

pub slice_bounds-start_periodic-count : goal.slice_bounds-start_periodic-count
slice_bounds-start_periodic-count c = let h = there c.args.recording.now c.requires.1 c.in-StartPeriodic.is in omega arith

pub slice_bounds-start_periodic-start : goal.slice_bounds-start_periodic-start
slice_bounds-start_periodic-start c = let h = there c.args.recording.now c.requires.1 c.in-StartPeriodic.is in omega arith

pub slice_bounds-start_periodic-end : goal.slice_bounds-start_periodic-end
slice_bounds-start_periodic-end c = let h = there c.args.recording.now c.requires.1 c.in-StartPeriodic.is in omega arith

pub returns-in-Connect : goal.returns-in-Connect
returns-in-Connect c = rw c.in-Connect.is c.connect.ensures

pub returns-in-StartFilter : goal.returns-in-StartFilter
returns-in-StartFilter c = rw c.in-StartFilter.is (c.start_filter.ensures _)

pub returns-in-StartFlow : goal.returns-in-StartFlow
returns-in-StartFlow c = rw c.in-StartFlow.is (c.start_flow_filter.ensures _)

pub returns-in-StartPeriodic : goal.returns-in-StartPeriodic
returns-in-StartPeriodic c = rw c.in-StartPeriodic.is (c.start_periodic.ensures _)

pub returns-in-Get : goal.returns-in-Get
returns-in-Get c = rw c.in-Get.is (c.get.ensures _)
