-- `importing::import` meets its contract. Assumes nothing.
use mathlib.Core.Path.{◌∙◌}
use Rattle.importing.proofs.Promise.{no_room, too_late, is_import}
use Rattle.importing.proofs.import.Goals as goal

pub returns-then-out-lt-LONGEST : goal.returns-then-out-lt-LONGEST
returns-then-out-lt-LONGEST c = no_room c.args.start c.args.log.now c.args.out.now c.if-out-lt-LONGEST.true

pub returns-then-start-gt-LATEST : goal.returns-then-start-gt-LATEST
returns-then-start-gt-LATEST c = too_late c.args.start c.args.log.now c.args.out.now c.if-out-lt-LONGEST.false c.if-start-gt-LATEST.true

pub returns : goal.returns
returns c =
    c.import_lines.ensures ∙ is_import c.args.start c.args.log.now c.args.out.now c.if-out-lt-LONGEST.false c.if-start-gt-LATEST.false
