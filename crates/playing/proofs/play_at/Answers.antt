-- `playing::play_at` meets its contract. Assumes nothing.
use mathlib.Core.Path.{sym, ◌∙◌}
use Rattle.edition.specs.Edition.{rates_of}
use Rattle.playing.proofs.Turning.{turned_mark, turned_event}
use Rattle.playing.proofs.play_at.Goals as goal

pub returns-then-is_mark : goal.returns-then-is_mark
returns-then-is_mark c = turned_mark (rates_of c.args.recording.now) c.args.recording.now c.args.at c.args.mem.now c.args.out.now c.args.place (sym c.is_mark.ensures ∙ c.if-is_mark.true)

pub returns : goal.returns
returns c = turned_event (rates_of c.args.recording.now) c.args.recording.now c.args.at c.args.mem.now c.args.out.now _ _ c.args.place _ _ (sym c.is_mark.ensures ∙ c.if-is_mark.false) c.play_event.ensures
