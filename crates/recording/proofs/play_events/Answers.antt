-- `recording::play_events` meets its contract. Assumes nothing.
use Prim.Native.Nat.{ℕ, ◌+◌, ◌-◌, ◌≤◌, ◌<◌}
use mathlib.Core.Path.{◌≡◌, refl, sym, ap, subst, ◌∙◌}
use mathlib.Core.Bool.{Bool, true, false, not, ◌&&◌}
use mathlib.Core.List.{List}
use mathlib.Core.Logic.{◌⊎◌, inl, inr, ⊎_elim}
use native.Mathlib.Omega.{arith}
use borrow.Author.Tests.{leb-true, leb-false}
use lib.Dec.{leb}
use lib.ListN.{length}
use Rattle.recording_sizes.specs.Sizes.{event_room}
use Rattle.reader.specs.declared.Reader.{Reader}
use Rattle.recording.specs.Replay.{Piece}
use Rattle.recording.proofs.Turning.{state, piece_from, Moving, Nearer, begun_at, ended_at, full_at, turn_at}
use Rattle.recording.proofs.play_events.Goals as goal

-- what the loop's test says: the reader is before the end, and there is room; or one of them is not so
more : (e : Bool) (s : List ℕ) (at place last : ℕ) → e ≡ leb (length s) at → (not e && leb place last) ≡ true → (at < length s) × (place ≤ last)
more true s at place last is t = cc
more false s at place last is t = (leb-false (length s) at (sym is), leb-true place last t)

no_more : (e : Bool) (s : List ℕ) (at place last : ℕ) → e ≡ leb (length s) at → (not e && leb place last) ≡ false → (length s ≤ at) ⊎ (last < place)
no_more true s at place last is t = inl (leb-true (length s) at (sym is))
no_more false s at place last is t = inr (leb-false place last t)

-- what is left is what lies between the place and the end
left_is : (s o₀ m o : List ℕ) (whole : Piece) (left at at' place : ℕ) → Moving s o₀ whole left (state m o at place) → at' ≡ at → Moving s o₀ whole (length s - at') (state m o at' place)
left_is s o₀ m o whole left at at' place p e =
    let k : left ≡ length s - at = omega (arith, p.place_is) in
    subst (λ (i : ℕ). Moving s o₀ whole (length s - i) (state m o i place)) (sym e) (subst (λ (j : ℕ). Moving s o₀ whole j (state m o at place)) k p)

pub loop-place-init : goal.loop-place-init
loop-place-init c =
    let a = c.args in
    let e = c.new-reader.ensures in
    record {
      same = ap (λ (r : Reader). r.recording.now) e;
      room = c.requires.2;
      moving = left_is a.recording.now a.out.now a.mem.now a.out.now _ (length a.recording.now - a.at) a.at _ 0 (begun_at a.recording.now a.mem.now a.out.now a.at (length a.recording.now - a.at) c.requires.0 (omega arith)) (ap (λ (r : Reader). r.at) e);
    }

near : (c : goal.After-moved_to-reader)
    → Nearer c.args.recording.now c.args.out.now (piece_from c.args.recording.now (state c.args.mem.now c.args.out.now c.args.at 0)) (length c.args.recording.now - c.loop-place.reader.at)
    (state c.play_at-turn.new.mem c.play_at-turn.new.out c.play_at-turn.result.next c.play_at-turn.result.place)
near c =
    let l = c.loop-place in
    let v = l.invariant in
    let t = more c.at_end.result c.args.recording.now l.reader.at l.place c.args.last (c.at_end.ensures ∙ ap (λ (s : List ℕ). leb (length s) l.reader.at) v.same) c.loop-place-test.true in
    turn_at v.moving t.0 (omega (arith, t.1, v.room)) c.play_at-turn.auto.out c.play_at-turn.ensures

pub loop-place-smaller : goal.loop-place-smaller
loop-place-smaller c =
    let n = near c in
    let e : c.moved_to-reader.result.at ≡ c.play_at-turn.result.next = ap (λ (r : Reader). r.at) c.moved_to-reader.ensures in
    omega (arith, n.fewer, n.moving.place_is, e)

pub loop-place-preserved : goal.loop-place-preserved
loop-place-preserved c =
    let v = c.loop-place.invariant in
    let n = near c in
    let e = c.moved_to-reader.ensures in
    record {
      same = ap (λ (r : Reader). r.recording.now) e ∙ v.same;
      room = v.room;
      moving = left_is _ _ _ _ _ n.left' c.play_at-turn.result.next _ _ n.moving (ap (λ (r : Reader). r.at) e);
    }

pub returns : goal.returns
returns c =
    let l = c.loop-place in
    let v = l.invariant in
    ⊎_elim (ended_at v.moving) (full_at v.moving c.args.last v.room)
    (no_more c.at_end.result c.args.recording.now l.reader.at l.place c.args.last (c.at_end.ensures ∙ ap (λ (s : List ℕ). leb (length s) l.reader.at) v.same) c.loop-place-test.false)
