-- `talk_landing::whole_in` meets its contract: by the head of its transfer. Assumes nothing.
use Rattle.talk_landing.proofs.Sent.{whole_head, free_tells, taken_tells}
use Rattle.talk_landing.proofs.whole_in.Goals as goal

pub returns-then-t-eq0 : goal.returns-then-t-eq0
returns-then-t-eq0 c =
    λ flags v. free_tells flags c.args.t.now c.requires v c.if-t-eq0.true

pub returns : goal.returns
unfolding whole_head
returns c =
    let head = c.head_in-h in
    let size = c.word_at-size in
    λ flags v. taken_tells flags c.args.t.now c.requires v c.if-t-eq0.false head.result head.ensures size.result size.ensures.0
