-- `link_timers::out_later` meets its contract: T1 runs on, or the telegram that asked is sent again, or it is given up. Assumes nothing.
use mathlib.Core.Path.{ap, ◌∙◌}
use lib.ListN.{length-set}
use Rattle.codec.specs.Word.{word}
use Rattle.link_timers.proofs.Outs.{rests, tag_two, goes_on, anew, over}
use borrow.Author.Rules.{rules}
use Rattle.link_timers.proofs.out_later.Goals as goal

pub returns-then-s-lt-ASKS : goal.returns-then-s-lt-ASKS
returns-then-s-lt-ASKS c =
    rests c.args.t1 c.args.us c.args.s.now c.requires.0 c.requires.1 c.if-s-lt-ASKS.true

pub returns-then-t1-us : goal.returns-then-t1-us
returns-then-t1-us c =
    goes_on c.args.t1 c.args.us c.args.s.now c.requires.0 c.requires.1 c.if-s-lt-ASKS.false _ c.word_at-left.ensures.0 c.if-t1-us.true _ (c.put_word.ensures ∙ ap word c.less.ensures)

pub overflow_sub-s : goal.overflow_sub-s
overflow_sub-s c =
    c.requires.2 (tag_two c.args.t1 c.args.us c.args.s.now c.requires.0 c.requires.1 c.if-s-lt-ASKS.false)

pub bounds-s-then-repeats-lt-MNT : goal.bounds-s-then-repeats-lt-MNT
bounds-s-then-repeats-lt-MNT c = simp length-set (search rules)

pub returns-then-repeats-lt-MNT : goal.returns-then-repeats-lt-MNT
returns-then-repeats-lt-MNT c =
    anew c.args.t1 c.args.us c.args.s.now c.requires.0 c.requires.1 c.if-s-lt-ASKS.false _ c.word_at-left.ensures.0 c.if-t1-us.false c.if-repeats-lt-MNT.true _ c.put_which.ensures

pub returns : goal.returns
returns c =
    over c.args.t1 c.args.us c.args.s.now c.requires.0 c.requires.1 c.if-s-lt-ASKS.false _ c.word_at-left.ensures.0 c.if-t1-us.false c.if-repeats-lt-MNT.false
