use mathlib.Core.Path.{subst}
use Prim.Native.Nat.{◌+◌, ◌≤◌, ◌<◌}
use native.Mathlib.Omega.{arith}
use lib.ListN.{length}
use Rattle.iso.specs.Limits.{most_payload}
use Rattle.talk_head.specs.Headed.{payload_at}
use Rattle.talk_hearing.specs.declared.Means.{Means}
use Rattle.talk_hearing.specs.Meaning.{Room}
use Rattle.talk_telling.proofs.Laws.{tells_single, tells_instead, tells_start, tells_last, tells_nothing, tells_refuse, tells_drop, tells_more, tells_flow}
use Rattle.talk_telling.proofs.tell.Goals as goal

pub put_part-requires : goal.put_part-requires
put_part-requires c =
    (subst (λ (x : Means). Room x (length (payload_at c.args.t.now)) c.args.bytes.now) c.in-Single.is c.requires.0.room, c.requires.1, c.requires.2)

pub put_part-requires-in-Instead : goal.put_part-requires-in-Instead
put_part-requires-in-Instead c =
    (subst (λ (x : Means). Room x (length (payload_at c.args.t.now)) c.args.bytes.now) c.in-Instead.is c.requires.0.room, c.requires.1, c.requires.2)

pub put_whole-whole-requires : goal.put_whole-whole-requires
put_whole-whole-requires c =
    let room : (c.in-Last.n < length c.args.bytes.now) × (length (payload_at c.args.t.now) + c.in-Last.n ≤ most_payload) =
    subst (λ (x : Means). Room x (length (payload_at c.args.t.now)) c.args.bytes.now) c.in-Last.is c.requires.0.room in
    (c.requires.0.reads, room.0, room.1, c.requires.2)

pub returns-in-Nothing : goal.returns-in-Nothing
returns-in-Nothing c = (tells_nothing c.args.m _ c.args.bytes.now _ c.in-Nothing.is, tt)

pub returns-in-Single : goal.returns-in-Single
returns-in-Single c =
    let room : c.in-Single.n < length c.args.bytes.now = subst (λ (x : Means). Room x (length (payload_at c.args.t.now)) c.args.bytes.now) c.in-Single.is c.requires.0.room in
    let few = c.requires.1 in
    let fits : c.in-Single.n ≤ most_payload = omega arith in
    (tells_single c.args.m _ c.args.bytes.now c.in-Single.n _ c.in-Single.is c.put_part.ensures, fits)

pub returns-in-Instead : goal.returns-in-Instead
returns-in-Instead c =
    let room : c.in-Instead.n < length c.args.bytes.now = subst (λ (x : Means). Room x (length (payload_at c.args.t.now)) c.args.bytes.now) c.in-Instead.is c.requires.0.room in
    let few = c.requires.1 in
    let fits : c.in-Instead.n ≤ most_payload = omega arith in
    (tells_instead c.args.m _ c.args.bytes.now c.in-Instead.n _ c.in-Instead.is c.put_part-in-Instead.ensures, fits)

pub returns-in-Start : goal.returns-in-Start
returns-in-Start c = (tells_start c.args.m _ c.args.bytes.now _ _ c.in-Start.is, tt)

pub returns-in-Refuse : goal.returns-in-Refuse
returns-in-Refuse c = (tells_refuse c.args.m _ c.args.bytes.now _ c.in-Refuse.is, tt)

pub returns-in-Drop : goal.returns-in-Drop
returns-in-Drop c = (tells_drop c.args.m _ c.args.bytes.now _ c.in-Drop.is, tt)

pub returns-in-More : goal.returns-in-More
returns-in-More c = (tells_more c.args.m _ c.args.bytes.now _ _ c.in-More.is, tt)

pub returns-in-Last : goal.returns-in-Last
returns-in-Last c =
    (tells_last c.args.m (payload_at c.args.t.now) c.args.bytes.now _ c.put_whole-whole.result _ c.in-Last.is c.put_whole-whole.ensures.0, c.put_whole-whole.ensures.1)

pub returns-in-Flow : goal.returns-in-Flow
returns-in-Flow c = (tells_flow c.args.m _ c.args.bytes.now _ _ c.in-Flow.is, tt)
