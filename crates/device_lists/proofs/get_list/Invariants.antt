-- What the pairs that are left give behind the done ones is what the whole list gives. Assumes nothing.
use mathlib.Core.Path.{◌≡◌}
use Prim.Native.Nat.{◌≤◌}
use lib.ListN.{length}
use Rattle.machine.specs.Codes.{two_rates}
use Rattle.machine.specs.Limits.{most_pairs}
use Rattle.machine.specs.Channel.{get_list}
use Rattle.machine.specs.Step.{call}
use Rattle.memory.specs.Promise.{outcome}
use Rattle.memory.proofs.Lists.{Ready}
use Rattle.device_lists.specs.Lists.{listed}
use Rattle.device_lists.proofs.Lists.{get_from}
use Rattle.device_lists.proofs.get_list.Given as goal

abbrev pub invariant-loop-pair : goal.invariant-loop-pair
invariant-loop-pair l = record {
  few : length l.pairs ≤ most_pairs;
  same : l.mem ≡ l.fn.mem;
  ready : Ready l.mem l.channel;
  right : get_from l.channel l.mem l.pair-index l.pairs ≡ outcome two_rates l.fn.mem (call l.channel (get_list (listed l.fn.pairs)));
}
