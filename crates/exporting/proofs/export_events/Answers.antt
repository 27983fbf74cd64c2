-- `exporting::export_events` meets its contract. The invariant: what was written and what is left make the piece. Assumes nothing.
use Prim.Native.Nat.{ℕ, ◌≤◌, ◌<◌}
use mathlib.Core.Bool.{true, ◌&&◌}
use mathlib.Core.Path.{◌≡◌}
use native.Mathlib.Omega.{arith}
use lib.Dec.{leb, ltb, ltb→lt, leb→le}
use lib.ListN.{length}
use Rattle.codec.proofs.Tests.{left, right, true_T}
use Rattle.exporting.proofs.Turning.{nothing_yet, all_done, late, line_room_law, goes, further}
use Rattle.exporting.proofs.export_events.Goals as goal

-- a turn
module _ (next size place last : ℕ) (taken : (ltb next size && leb place last) ≡ true) where
  more : next < size
  more = ltb→lt _ _ (left (ltb next size) (leb place last) (true_T _ taken))

  room : place ≤ last
  room = leb→le _ _ (right (ltb next size) (leb place last) (true_T _ taken))

pub loop-next-init : goal.loop-next-init
loop-next-init c = nothing_yet _ _ _ _ c.requires.0 c.requires.2

pub export_at-reached-requires : goal.export_at-reached-requires
export_at-reached-requires c =
    let m : c.loop-next.next < length c.args.recording.now = more _ _ _ _ c.loop-next-test.true in
    let r : c.loop-next.place ≤ c.args.last = room _ _ _ _ c.loop-next-test.true in
    (late _ _ _ _ c.loop-next.invariant m c.requires.1 c.args.last c.requires.3 r, line_room_law _ _ _ _ c.loop-next.invariant m c.requires.1 c.args.last c.requires.3 r)

pub loop-next-smaller : goal.loop-next-smaller
loop-next-smaller c =
    let m : c.loop-next.next < length c.args.recording.now = more _ _ _ _ c.loop-next-test.true in
    let r : c.loop-next.place ≤ c.args.last = room _ _ _ _ c.loop-next-test.true in
    omega (arith, m, further _ _ _ _ c.loop-next.invariant m c.requires.1 c.args.last c.requires.3 r _ _ _ _ c.export_at-reached.ensures)

pub loop-next-preserved : goal.loop-next-preserved
loop-next-preserved c =
    let m : c.loop-next.next < length c.args.recording.now = more _ _ _ _ c.loop-next-test.true in
    let r : c.loop-next.place ≤ c.args.last = room _ _ _ _ c.loop-next-test.true in
    goes _ _ _ _ c.loop-next.invariant m c.requires.1 c.args.last c.requires.3 r _ _ _ _ c.export_at-reached.ensures

pub shape_of-out : goal.shape_of-out
shape_of-out c = c.loop-next.invariant.same_length

pub returns : goal.returns
returns c = all_done _ _ _ _ c.loop-next.invariant c.args.last c.requires.3 c.loop-next-test.false
