use Rattle.link_asking.proofs.Laws.{five}
use borrow.Author.Rules.{rules}
use Rattle.link_asking.proofs.put_five.Goals as goal

pub bounds-s-4 : goal.bounds-s-4
bounds-s-4 c = search rules depth 9

pub returns : goal.returns
returns c = five _ _ _ _ _ c.args.s.now c.requires.0
