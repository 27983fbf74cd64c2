-- Each piece that `replay::play` plays moves the place, and leaves a valid memory.
use Rattle.std.proofs.Common.{arith}
use Rattle.codec.proofs.Lists.{bytes_of_law}
use Rattle.recording.proofs.Promise.{told_ok, told_err}
use Rattle.recording.proofs.Joined.{goes_on_law}
use Rattle.replay.proofs.play.Goals as goal

-- a piece that was refused would have moved the place, and no refusal does
pub unreachable-requires : goal.unreachable-requires
unreachable-requires g c =
    let s = c.args.recording.now in
    let went = goes_on_law s (bytes_of_law s (λ i. (c.shared_slice_known-1.given i).fits)) c.loop-at.mem c.loop-at.at c.loop-at.out c.loop-at-test.true (told_err _ c.play_on.ensures c.in_default.is) (omega arith) c.loop-at.invariant.0 (omega (arith, c.requires.1, c.loop-at.invariant.2)) in
    omega (arith, went.on)

pub loop-at-smaller : goal.loop-at-smaller
loop-at-smaller g c =
    let s = c.args.recording.now in
    let went = goes_on_law s (bytes_of_law s (λ i. (c.shared_slice_known-1.given i).fits)) c.loop-at.mem c.loop-at.at c.loop-at.out c.loop-at-test.true (told_ok _ c.play_on.ensures c.in-Ok.is) (omega arith) c.loop-at.invariant.0 (omega (arith, c.requires.1, c.loop-at.invariant.2)) in
    omega (arith, went.on, c.loop-at-test.true)

pub loop-at-preserved : goal.loop-at-preserved
loop-at-preserved g c =
    let s = c.args.recording.now in
    let went = goes_on_law s (bytes_of_law s (λ i. (c.shared_slice_known-1.given i).fits)) c.loop-at.mem c.loop-at.at c.loop-at.out c.loop-at-test.true (told_ok _ c.play_on.ensures c.in-Ok.is) (omega arith) c.loop-at.invariant.0 (omega (arith, c.requires.1, c.loop-at.invariant.2)) in
    (went.sound, omega arith, omega arith)
