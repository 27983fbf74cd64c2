-- What the pairs that are left do on this memory is what the whole list does on the first one. Assumes nothing.
use mathlib.Core.Path.{◌≡◌}
use Prim.Native.Nat.{◌≤◌}
use lib.ListN.{length}
use Rattle.machine.specs.Codes.{two_rates}
use Rattle.machine.specs.Limits.{most_pairs}
use Rattle.machine.specs.Channel.{set_list}
use Rattle.machine.specs.Step.{call}
use Rattle.memory.specs.Promise.{outcome}
use Rattle.memory.proofs.Lists.{Ready}
use Rattle.device_lists.specs.Lists.{listed}
use Rattle.device_lists.proofs.Lists.{set_from}
use Rattle.device_lists.proofs.set_list.Given as goal

abbrev pub invariant-loop-pair : goal.invariant-loop-pair
invariant-loop-pair l = record {
  few : length l.pairs ≤ most_pairs;
  ready : Ready l.mem l.channel;
  right : set_from l.channel l.pairs l.pair-index l.mem ≡ outcome two_rates l.fn.mem (call l.channel (set_list (listed l.pairs)));
}
