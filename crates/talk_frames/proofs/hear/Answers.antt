use mathlib.Core.Path.{subst}
use Prim.Native.Nat.{ℕ}
use Rattle.talk_head.proofs.Taken.{taken}
use Rattle.talk_hearing.specs.Meaning.{Room}
use Rattle.talk_frames.proofs.Laws.{sized, hears}
use Rattle.talk_frames.proofs.hear.Goals as goal

pub payload_size-held-requires : goal.payload_size-held-requires
payload_size-held-requires c =
    let p = c.requires.0 in
    (p.long, (taken p.flags c.args.t.now p.long p.valid p.taken).payload)

pub meaning-m-requires : goal.meaning-m-requires
meaning-m-requires c =
    let p = c.requires.0 in
    sized p.flags c.args.t.now p.long p.valid p.taken _ _ c.head_in.ensures c.payload_size-held.ensures.0

pub tell-r-requires : goal.tell-r-requires
tell-r-requires c =
    let p = c.requires.0 in (
      record {
        reads = record { long = p.long; payload = (taken p.flags c.args.t.now p.long p.valid p.taken).payload };
        room = subst (λ (n : ℕ). Room c.meaning-m.result n c.args.bytes.now) c.payload_size-held.ensures.0 c.meaning-m.ensures.1;
      },
      c.requires.1,
      c.requires.2,
    )

pub turn-requires : goal.turn-requires
turn-requires c =
    let p = c.requires.0 in
    record {
      reads = record { long = p.long; payload = (taken p.flags c.args.t.now p.long p.valid p.taken).payload };
      room = subst (λ (n : ℕ). Room c.meaning-m.result n c.args.bytes.now) c.payload_size-held.ensures.0 c.meaning-m.ensures.1;
    }

pub returns : goal.returns
returns c =
    let p = c.requires.0 in (
      λ flags v clock.
          hears flags c.args.t.now p.long v p.taken c.args.bytes.now c.meaning-m.result c.head_in.result c.payload_size-held.result c.word_at.result c.word_at-2.result
          c.head_in.ensures c.payload_size-held.ensures.0 c.word_at.ensures.0 c.word_at-2.ensures.0 c.meaning-m.ensures.0 clock _ _ c.tell-r.result
          (c.turn.ensures flags v p.taken clock) c.tell-r.ensures.0,
      c.tell-r.ensures.1,
    )
