-- `event_parts::at_most64` meets its contract. A number, and the test of the definition. Assumes nothing.
use mathlib.Core.Option.{bind}
use mathlib.Core.Path.{refl}
use borrow.Author.Tests.{le-leb, lt-leb}
use Rattle.events.specs.Events.{◌>>=◌, done, bad, number, at_most64}
use Rattle.reader.specs.Cursor.{given}
use Rattle.reader.proofs.Reading.{read_good, read_bad, read_kept}
use Rattle.event_parts.proofs.at_most64.Goals as goal

pub returns-in_err-n : goal.returns-in_err-n
unfolding given ◌>>=◌ bind at_most64
returns-in_err-n c = record { is = rw (c.from_residual.ensures, read_bad number _ c.in_err-n.ensures); left = rw c.from_residual.ensures; on = refl }

pub returns-then-n-gt-MOST : goal.returns-then-n-gt-MOST
unfolding given ◌>>=◌ bind bad at_most64
returns-then-n-gt-MOST c = record { is = rw ((read_good number _ c.in_ok-n.ensures).is, lt-leb _ 64 c.if-n-gt-MOST.true); left = refl; on = refl }

pub returns : goal.returns
unfolding given ◌>>=◌ bind done at_most64
returns c = record { is = rw ((read_good number _ c.in_ok-n.ensures).is, le-leb _ 64 c.if-n-gt-MOST.false); left = read_kept number _ c.next_number.ensures; on = read_kept number _ c.next_number.ensures }
