-- `link_data::answer` meets its contract: one byte. Assumes nothing.
use Rattle.link_data.proofs.Stored.{answers}
use Rattle.link_data.proofs.answer.Goals as goal

pub returns : goal.returns
returns c =
    let m = c.args.s.now in
    answers m c.requires.0 c.requires.1 c.args.ready _ c.waiting.ensures
