-- `talk_times::later_in` meets its contract: read, turned, stored. Assumes nothing.
use mathlib.Core.Path.{sym, ◌∙◌, subst}
use Prim.Native.Nat.{◌<◌}
use Rattle.iso.specs.Iso.{later_transfer}
use Rattle.talk_head.specs.Headed.{Tells, payload_at, head_at}
use Rattle.talk_head.proofs.Taken.{Taken, taken, free_turns, same_turns, settled_turns}
use Rattle.talk_times.proofs.Times.{bare_stays}
use Rattle.talk_times.proofs.later_in.Goals as goal

pub returns-then-t-eq0 : goal.returns-then-t-eq0
returns-then-t-eq0 c =
    λ flags v. free_turns flags c.args.t.now c.requires v (λ x. later_transfer c.args.us x.transfer) c.if-t-eq0.true

pub returns-then-h-lt2 : goal.returns-then-h-lt2
returns-then-h-lt2 c =
    let t = c.args.t.now in
    let us = c.args.us in
    λ flags v.
    let p : Taken flags t = taken flags t c.requires v c.if-t-eq0.false in
    same_turns flags t c.requires v (λ c. later_transfer us c.transfer) p
    (bare_stays us (head_at t) (payload_at t) p.talk.transfer p.tells (subst (λ h. h.kind < 2) c.head_in-h.ensures c.if-h-lt2.true))

pub returns : goal.returns
returns c =
    let t = c.args.t.now in
    let us = c.args.us in
    λ flags v.
    let p : Taken flags t = taken flags t c.requires v c.if-t-eq0.false in
    c.settle.ensures
    ∙ settled_turns flags t c.requires v (λ c. later_transfer us c.transfer) p c.later-next.result
    (c.later-next.ensures (payload_at t) p.talk.transfer (subst (λ h. Tells h (payload_at t) p.talk.transfer) (sym c.head_in-h.ensures) p.tells))
