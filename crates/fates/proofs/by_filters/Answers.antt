-- `fates::by_filters` meets its contract. Assumes nothing.
use native.Mathlib.Omega.{arith}
use Rattle.verdict.proofs.Columns.{heads_held}
use Rattle.fates.proofs.Laws.{unmatched, blocked, passed}
use Rattle.fates.proofs.by_filters.Goals as goal

pub hits-requires : goal.hits-requires
hits-requires c =
    (heads_held c.args.part.now c.requires.0, omega arith, omega arith, c.requires.1, c.end_of-end.ensures.0, c.end_of-end.ensures.1)

pub returns-then-not-hits : goal.returns-then-not-hits
returns-then-not-hits c =
    unmatched c.args.part.now c.requires.0 _ _ c.rows-masks.ensures c.rows-patterns.ensures c.args.wide _ _ c.hits.ensures c.if-not-hits.true

pub hits-requires-2 : goal.hits-requires-2
hits-requires-2 c =
    (heads_held c.args.part.now c.requires.0, omega arith, omega arith, c.requires.1, c.end_of-end.ensures.0, c.end_of-end.ensures.1)

pub returns-then-hits : goal.returns-then-hits
returns-then-hits c =
    blocked c.args.part.now c.requires.0 _ _ c.rows-masks.ensures c.rows-patterns.ensures c.args.wide _ _ _ c.hits.ensures c.if-not-hits.false c.hits-2.ensures c.if-hits.true

pub returns : goal.returns
returns c =
    passed c.args.part.now c.requires.0 _ _ c.rows-masks.ensures c.rows-patterns.ensures c.args.wide _ _ _ c.hits.ensures c.if-not-hits.false c.hits-2.ensures c.if-hits.false
