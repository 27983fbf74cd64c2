-- `replacing::put_periodics` meets its contract. Assumes nothing.
use Prim.Native.Nat.{ℕ}
use mathlib.Core.Path.{ap, ◌∙◌}
use mathlib.Core.List.{map}
use Rattle.codec.specs.Plain.{zeros}
use Rattle.machine.specs.Channel.{periodic_in, starts_anew}
use Rattle.layout.specs.Memory.{periodics}
use Rattle.store_filling.proofs.Entries.{list_there, slots_given}
use Rattle.replacing.proofs.put_periodics.Goals as goal

pub fill_periodics-requires : goal.fill_periodics-requires
fill_periodics-requires c = (
  list_there periodic_in c.args.store.now c.args.at c.number_there-count.result.value c.number_there-count.result.next c.number_there-count.ensures c.requires.0,
  c.zero.ensures ∙ ap (λ (n : ℕ). zeros n) c.requires.1,
)

pub returns : goal.returns
returns c =
    slots_given periodic_in c.args.store.now c.args.at c.number_there-count.result.value c.number_there-count.result.next c.number_there-count.ensures
    c.fill_periodics.result c.fill_periodics.new.part (λ flags ps. (periodics flags).put (map starts_anew ps)) c.fill_periodics.ensures
