-- `shift_events::count` meets its contract. Assumes nothing.
use mathlib.Core.Path.{refl, subst}
use Rattle.events.specs.declared.Event.{Event}
use Rattle.events.specs.Found.{EventThere}
use Rattle.shift.specs.Numbers.{counted_as}
use Rattle.shift_events.proofs.Counting.{counts_read, another_counts, giving_counts}
use Rattle.shift_events.proofs.count.Goals as goal

pub count_plain-requires : goal.count_plain-requires
count_plain-requires c =
    (c.requires.0, subst (λ (x : Event). EventThere c.args.recording.now x) c.in-Code.is c.requires.1, c.requires.2)

pub returns-in-Code : goal.returns-in-Code
returns-in-Code c rates = rw c.in-Code.is (c.count_plain.ensures rates)

pub returns-in-Number : goal.returns-in-Number
returns-in-Number c rates =
    rw c.in-Number.is (giving_counts c.args.mem.now c.requires.0 rates c.args.numbers.now c.requires.2 c.args.recording.now c.in-Number.field-0)

pub returns-in-Write : goal.returns-in-Write
unfolding counted_as
returns-in-Write c rates =
    rw c.in-Write.is (another_counts c.args.mem.now c.requires.0 rates c.args.numbers.now c.requires.2 _ _ refl)

pub returns-in-Read : goal.returns-in-Read
returns-in-Read c rates =
    rw c.in-Read.is (counts_read c.args.mem.now c.requires.0 rates c.args.numbers.now _ _ _ c.count_read.ensures)

pub returns-in-Take : goal.returns-in-Take
unfolding counted_as
returns-in-Take c rates =
    rw c.in-Take.is (another_counts c.args.mem.now c.requires.0 rates c.args.numbers.now c.requires.2 _ _ refl)
