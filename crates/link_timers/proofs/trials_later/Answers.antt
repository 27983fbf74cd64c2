-- `link_timers::trials_later` meets its contract: T_E runs on, or the telegram waits again, or it is given up. Assumes nothing.
use Rattle.link_timers.proofs.Tries.{rests, goes_on, anew, over}
use Rattle.link_timers.proofs.trials_later.Goals as goal

pub returns-then-s-lt-RUNS : goal.returns-then-s-lt-RUNS
returns-then-s-lt-RUNS c =
    rests c.args.us c.args.s.now c.requires.0 c.requires.1 c.if-s-lt-RUNS.true

pub returns-then-us-left : goal.returns-then-us-left
returns-then-us-left c =
    goes_on c.args.us c.args.s.now c.requires.0 c.requires.1 c.if-s-lt-RUNS.false _ c.word_at-left.ensures.0 c.if-us-left.true _ c.put_word.ensures

pub returns-then-repeats-lt-MNTC : goal.returns-then-repeats-lt-MNTC
returns-then-repeats-lt-MNTC c =
    anew c.args.us c.args.s.now c.requires.0 c.requires.1 c.if-s-lt-RUNS.false _ c.word_at-left.ensures.0 c.if-us-left.false c.if-repeats-lt-MNTC.true _ c.put_which.ensures

pub returns : goal.returns
returns c =
    over c.args.us c.args.s.now c.requires.0 c.requires.1 c.if-s-lt-RUNS.false _ c.word_at-left.ensures.0 c.if-us-left.false c.if-repeats-lt-MNTC.false
