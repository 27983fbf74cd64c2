-- `talk_giving::segment` meets its contract: the payload lent, the frame told, the head stored. Assumes nothing.
use mathlib.Core.Path.{◌≡◌, sym, ap, ◌∙◌}
use Prim.Native.Nat.{ℕ, ◌+◌, ◌-◌, ◌≤◌, ◌<◌}
use native.Mathlib.Omega.{arith}
use mathlib.Core.List.{List, []}
use lib.ListN.{length, take, drop}
use Rattle.iso.specs.Limits.{most_payload}
use Rattle.iso.specs.Iso.{opens, segment_of}
use Rattle.talk_head.specs.Headed.{payload_at, with_head}
use Rattle.talk_giving.proofs.Laws.{free_gave, placed_payload, lent_payload, due_room, segments_one, segments_none, some_talk}
use Rattle.talk_giving.proofs.segment.Goals as goal

-- src/lib.rt:120:9
pub returns-then-t-eq0 : goal.returns-then-t-eq0
returns-then-t-eq0 c =
    (λ k. free_gave c.args.t.now c.requires.0 (λ c'. segment_of k c' c'.transfer) [] c.if-t-eq0.true, omega arith)

-- src/lib.rt:124:38
pub payload_size-requires : goal.payload_size-requires
payload_size-requires c =
    (c.requires.0, placed_payload c.args.t.now c.requires.0 c.if-t-eq0.false c.requires.2)

-- src/lib.rt:125:13
pub next-m-requires : goal.next-m-requires
next-m-requires c =
    let t : List ℕ = c.args.t.now in
    let on = c.if-t-eq0.false in
    let head = c.head_in-h in
    let size = c.payload_size in
    let room = due_room t c.requires.0 on c.requires.2 head.result head.ensures (sym c.next_due.ensures ∙ c.if-next_due.true) in
    let below : head.result.n < length (payload_at t) = room.0 in
    let short : length (payload_at t) ≤ most_payload = room.1 in
    let lent : length (take (32 + size.result - 32) (drop 32 t)) ≡ length (payload_at t) = ap length (lent_payload t c.requires.0 on c.requires.2 size.result size.ensures.0) in
    (c.requires.1, omega arith, omega arith)

-- src/lib.rt:126:32
pub next_taken-requires : goal.next_taken-requires
next_taken-requires c =
    let t : List ℕ = c.args.t.now in
    let head = c.head_in-h in
    let room = due_room t c.requires.0 c.if-t-eq0.false c.requires.2 head.result head.ensures (sym c.next_due.ensures ∙ c.if-next_due.true) in
    let below : head.result.n < length (payload_at t) = room.0 in
    let short : length (payload_at t) ≤ most_payload = room.1 in
    omega arith

-- src/lib.rt:127:9
pub returns-then-next_due : goal.returns-then-next_due
returns-then-next_due c =
    let t = c.args.t.now in
    let on = c.if-t-eq0.false in
    let head = c.head_in-h in
    let size = c.payload_size in
    let frame = c.next-m in
    let next = c.next_taken in
    let put = c.put_head in (
      λ k.
          segments_one t c.requires.0 on head.result head.ensures k frame.result frame.new.d put.new.t (take (32 + size.result - 32) (drop 32 t)) (sym c.next_due.ensures ∙ c.if-next_due.true)
          (lent_payload t c.requires.0 on c.requires.2 size.result size.ensures.0) (λ c' s. (frame.ensures c' s).0) (put.ensures ∙ ap (λ y. with_head y t) next.ensures),
      (frame.ensures some_talk opens).1,
    )

-- src/lib.rt:115:1
pub returns : goal.returns
returns c =
    let head = c.head_in-h in (
      λ k. segments_none c.args.t.now c.requires.0 c.if-t-eq0.false head.result head.ensures k [] (sym c.next_due.ensures ∙ c.if-next_due.false),
      omega arith,
    )
