use mathlib.Core.Path.{subst}
use Prim.Native.Nat.{◌+◌, ◌≤◌}
use lib.ListN.{length}
use Rattle.iso.specs.Limits.{most_payload, in_first, in_next}
use Rattle.talk_head.specs.Headed.{payload_at}
use Rattle.talk_hearing.specs.declared.Means.{Means}
use Rattle.talk_hearing.specs.Meaning.{Room, Plain}
use Rattle.talk_frames.proofs.Laws.{after_nothing, after_single, after_instead, after_drop, after_last, after_refuse, after_start, after_more, after_flow}
use Rattle.talk_frames.proofs.turn.Goals as goal

pub start-requires : goal.start-requires
start-requires c =
    let room : Plain c.in-Start.h × (2 + in_first ≤ length c.args.bytes.now) = subst (λ (x : Means). Room x (length (payload_at c.args.t.now)) c.args.bytes.now) c.in-Start.is c.requires.room in
    (c.requires.reads.long, room.1)

pub more-requires : goal.more-requires
more-requires c =
    let room : Plain c.in-More.h × (1 + in_next ≤ length c.args.bytes.now) × (length (payload_at c.args.t.now) + in_next ≤ most_payload) =
    subst (λ (x : Means). Room x (length (payload_at c.args.t.now)) c.args.bytes.now) c.in-More.is c.requires.room in
    (c.requires.reads, room.1, room.2)

pub returns-in-Nothing : goal.returns-in-Nothing
returns-in-Nothing c flags v n clock = after_nothing c.args.m c.args.t.now c.args.bytes.now c.requires.reads.long flags v n clock c.in-Nothing.is

pub returns-in-Single : goal.returns-in-Single
returns-in-Single c flags v n clock = after_single c.args.m c.args.t.now c.args.bytes.now c.requires.reads.long flags v n clock _ c.in-Single.is

pub returns-in-Instead : goal.returns-in-Instead
returns-in-Instead c flags v n clock =
    after_instead c.args.m c.args.t.now c.args.bytes.now c.requires.reads.long flags v n clock _ c.in-Instead.is _ c.bare.ensures _ c.settle.ensures

pub returns-in-Start : goal.returns-in-Start
returns-in-Start c flags v n clock =
    let room : Plain c.in-Start.h × (2 + in_first ≤ length c.args.bytes.now) = subst (λ (x : Means). Room x (length (payload_at c.args.t.now)) c.args.bytes.now) c.in-Start.is c.requires.room in
    after_start c.args.m c.args.t.now c.args.bytes.now c.requires.reads.long flags v n clock c.in-Start.h c.in-Start.is room.0 _ c.start.ensures

pub returns-in-Refuse : goal.returns-in-Refuse
returns-in-Refuse c flags v n clock =
    after_refuse c.args.m c.args.t.now c.args.bytes.now c.requires.reads.long flags v n clock c.in-Refuse.is _ c.bare-in-Refuse.ensures _ c.settle-in-Refuse.ensures

pub returns-in-Drop : goal.returns-in-Drop
returns-in-Drop c flags v n clock =
    after_drop c.args.m c.args.t.now c.args.bytes.now c.requires.reads.long flags v n clock c.in-Drop.is _ c.bare-in-Drop.ensures _ c.settle-in-Drop.ensures

pub returns-in-More : goal.returns-in-More
returns-in-More c flags v n clock =
    let room : Plain c.in-More.h × (1 + in_next ≤ length c.args.bytes.now) × (length (payload_at c.args.t.now) + in_next ≤ most_payload) =
    subst (λ (x : Means). Room x (length (payload_at c.args.t.now)) c.args.bytes.now) c.in-More.is c.requires.room in
    after_more c.args.m c.args.t.now c.args.bytes.now c.requires.reads.long flags v n clock c.in-More.h c.in-More.is room.0 _ c.more.ensures

pub returns-in-Last : goal.returns-in-Last
returns-in-Last c flags v n clock =
    after_last c.args.m c.args.t.now c.args.bytes.now c.requires.reads.long flags v n clock _ c.in-Last.is _ c.bare-in-Last.ensures _ c.settle-in-Last.ensures

pub returns-in-Flow : goal.returns-in-Flow
returns-in-Flow c flags v n clock =
    after_flow c.args.m c.args.t.now c.args.bytes.now c.requires.reads.long flags v n clock c.in-Flow.h c.in-Flow.is
    (subst (λ (x : Means). Room x (length (payload_at c.args.t.now)) c.args.bytes.now) c.in-Flow.is c.requires.room) _ c.put_head.ensures
