-- `talk_landing::landed_in` meets its contract: read, turned, stored. Assumes nothing.
use mathlib.Core.Path.{sym, ◌∙◌, subst}
use Rattle.iso.specs.Iso.{sent_of}
use Rattle.talk_head.specs.Headed.{Tells, payload_at}
use Rattle.talk_head.proofs.Taken.{Taken, taken, free_turns, settled_turns}
use Rattle.talk_landing.proofs.Sent.{taken_size}
use Rattle.talk_landing.proofs.landed_in.Goals as goal

pub returns-then-t-eq0 : goal.returns-then-t-eq0
returns-then-t-eq0 c =
    λ flags v. free_turns flags c.args.t.now c.requires v (λ c. sent_of c.transfer) c.if-t-eq0.true

pub returns : goal.returns
returns c =
    let t = c.args.t.now in
    let n = c.if-t-eq0.false in
    let head = c.head_in-h in
    let size = c.word_at-size in
    let after = c.sent_head-then in
    λ flags v.
    let p : Taken flags t = taken flags t c.requires v n in
    c.settle.ensures
    ∙ settled_turns flags t c.requires v (λ c. sent_of c.transfer) p after.result
    (after.ensures (payload_at t) p.talk.transfer (taken_size flags t c.requires v n head.result head.ensures size.result size.ensures.0)
    (subst (λ h. Tells h (payload_at t) p.talk.transfer) (sym head.ensures) p.tells))
