-- `shift_report::count_all` meets its contract. Assumes nothing.
use borrow.Author.Rules.{rules}
use Rattle.shift_report.proofs.Going.{begun, too_long}
use Rattle.shift_report.proofs.count_all.Goals as goal

pub returns-then-recording-gt-LONGEST : goal.returns-then-recording-gt-LONGEST
returns-then-recording-gt-LONGEST c =
    too_long c.args.recording.now c.args.mem.now c.args.numbers.now c.requires.0 c.requires.1 c.if-recording-gt-LONGEST.true

pub count_events-requires : goal.count_events-requires
count_events-requires c =
    (begun c.args.recording.now c.args.mem.now c.args.numbers.now c.requires.0 c.requires.1 c.if-recording-gt-LONGEST.false _ c.start_of-start.ensures, c.if-recording-gt-LONGEST.false, search rules)

pub returns : goal.returns
returns c = c.count_events.ensures
