-- `playing::play_by_edition` meets its contract: the rates lent are those of the edition. Assumes nothing.
use mathlib.Core.Path.{sym, ◌∙◌}
use Rattle.machine.specs.Codes.{three_rates, two_rates}
use Rattle.edition.proofs.Marked.{new_rates, old_rates}
use Rattle.playing.proofs.Turning.{with_rates}
use Rattle.playing.proofs.play_by_edition.Goals as goal

pub returns-then-is_marked : goal.returns-then-is_marked
unfolding two_rates
returns-then-is_marked c = with_rates (new_rates c.args.recording.now (sym c.is_marked.ensures ∙ c.if-is_marked.true)) c.play.ensures

pub returns : goal.returns
unfolding three_rates
returns c = with_rates (old_rates c.args.recording.now (sym c.is_marked.ensures ∙ c.if-is_marked.false)) c.play-2.ensures
