-- `link_data::take` meets its contract: the message, the mark, the SN, and the acknowledge where one is asked for. Assumes nothing.
use mathlib.Core.Path.{refl, ap}
use native.Mathlib.Omega.{arith}
use lib.ListN.{length, length-set}
use Rattle.link_data.proofs.Stored.{lent, heard, heard_asked}
use borrow.Author.Rules.{rules}
use Rattle.link_data.proofs.take.Goals as goal

pub append-requires : goal.append-requires
append-requires c =
    let m = c.args.s.now in
    let p = lent m c.requires.0 c.requires.1 in
    let few = c.requires.2 in (p.long, p.valid, omega (arith, ap length p.got))

pub bounds-s-0-2 : goal.bounds-s-0-2
bounds-s-0-2 c = simp length-set (search rules)

pub bounds-s-1 : goal.bounds-s-1
bounds-s-1 c = simp length-set (search rules)

pub returns-then-asking : goal.returns-then-asking
returns-then-asking c =
    let m = c.args.s.now in
    heard_asked m c.requires.0 c.requires.1 c.args.asking c.args.last c.args.bytes.now c.held.result _ _ _ c.held.ensures.0 c.mark.ensures refl c.append.ensures c.if-asking.true _ c.waiting.ensures

pub returns-else-asking : goal.returns-else-asking
returns-else-asking c =
    let m = c.args.s.now in
    heard m c.requires.0 c.requires.1 c.args.asking c.args.last c.args.bytes.now c.held.result _ _ _ c.held.ensures.0 c.mark.ensures refl c.append.ensures c.if-asking.false
