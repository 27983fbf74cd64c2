use Rattle.talk_hearing.proofs.Laws.{single_none, single_much, single_short, single_instead, single_beside}
use Rattle.talk_hearing.proofs.single.Goals as goal

pub returns-then-n-lt1 : goal.returns-then-n-lt1
returns-then-n-lt1 c = (single_none c.args.h c.args.bytes.now _ c.low-n.ensures.0 c.if-n-lt1.true, λ held. tt)

pub returns-then-n-gt-IN_FRAME : goal.returns-then-n-gt-IN_FRAME
returns-then-n-gt-IN_FRAME c = (single_much c.args.h c.args.bytes.now _ c.low-n.ensures.0 c.if-n-gt-IN_FRAME.true, λ held. tt)

pub returns-then-n-bytes : goal.returns-then-n-bytes
returns-then-n-bytes c = (single_short c.args.h c.args.bytes.now _ c.low-n.ensures.0 c.if-n-bytes.true, λ held. tt)

pub returns-then-h-eq-RECEIVES : goal.returns-then-h-eq-RECEIVES
returns-then-h-eq-RECEIVES c =
    (single_instead c.args.h c.args.bytes.now _ c.low-n.ensures.0 c.if-n-lt1.false c.if-n-gt-IN_FRAME.false c.if-n-bytes.false c.if-h-eq-RECEIVES.true, λ held. c.if-n-bytes.false)

pub returns : goal.returns
returns c =
    (single_beside c.args.h c.args.bytes.now _ c.low-n.ensures.0 c.if-n-lt1.false c.if-n-gt-IN_FRAME.false c.if-n-bytes.false c.requires.1 c.if-h-eq-RECEIVES.false, λ held. c.if-n-bytes.false)
