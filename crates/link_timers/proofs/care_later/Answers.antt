-- `link_timers::care_later` meets its contract: T_CTa runs on, or a test waits, or it is given up. Assumes nothing.
use mathlib.Core.Path.{ap, ◌∙◌}
use lib.ListN.{length-set}
use Rattle.codec.specs.Word.{word}
use Rattle.link_timers.proofs.Tests.{goes_on, over, first, another}
use borrow.Author.Rules.{rules}
use Rattle.link_timers.proofs.care_later.Goals as goal

pub returns-then-left-us : goal.returns-then-left-us
returns-then-left-us c =
    goes_on c.args.us c.args.s.now c.requires.0 c.requires.1 _ c.word_at-left.ensures.0 c.if-left-us.true _ (c.put_word.ensures ∙ ap word c.less.ensures)

pub returns-then-unanswered-gt-MNCT : goal.returns-then-unanswered-gt-MNCT
returns-then-unanswered-gt-MNCT c =
    over c.args.us c.args.s.now c.requires.0 c.requires.1 _ c.word_at-left.ensures.0 c.if-left-us.false c.if-unanswered-gt-MNCT.true

pub returns-then-unanswered-eq0 : goal.returns-then-unanswered-eq0
returns-then-unanswered-eq0 c =
    first c.args.us c.args.s.now c.requires.0 c.requires.1 _ c.word_at-left.ensures.0 c.if-left-us.false c.if-unanswered-gt-MNCT.false _ c.put_word-2.ensures c.if-unanswered-eq0.true

pub bounds-s-2-2 : goal.bounds-s-2-2
bounds-s-2-2 c = simp length-set (search rules)

pub returns : goal.returns
returns c =
    another c.args.us c.args.s.now c.requires.0 c.requires.1 _ c.word_at-left.ensures.0 c.if-left-us.false c.if-unanswered-gt-MNCT.false _ c.put_word-2.ensures c.if-unanswered-eq0.false
