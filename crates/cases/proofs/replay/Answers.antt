-- Each piece that `cases::replay` plays moves the place and fits behind what is written, or there is no room.
use Rattle.std.proofs.Common.{refl, ℕ, ◌+◌, ◌-◌, ◌≤◌, List, length, take, drop, arith, rules}
use Rattle.std.proofs.lemmas.List.{length-take, length-drop}
use Rattle.codec.proofs.Lists.{bytes_of_law}
use Rattle.recording.proofs.Promise.{told_ok}
use Rattle.recording.proofs.Joined.{Went, done_goes_on}
use Rattle.cases.proofs.replay.Goals as goal

-- what is lent of the output: all behind what is written
abbrev lent : goal.After-struct_known-1 → List ℕ
lent c = take (length c.loop-at.out - c.loop-at.length) (drop c.loop-at.length c.loop-at.out)

went : (c : goal.After-struct_known-1) → Went c.loop-at.at (length (lent c)) c.in-Ok.played.at c.in-Ok.played.length c.play_on.new.mem
went c =
    let s = c.args.recording.now in
    done_goes_on s (bytes_of_law s (λ i. (c.shared_slice_known-1.given i).fits)) c.loop-at.mem c.loop-at.at (lent c) c.loop-at-test.true (told_ok _ c.play_on.ensures c.in-Ok.is) (omega arith) refl

behind : (c : goal.After-struct_known-1) → c.loop-at.length + c.in-Ok.played.length ≤ length c.loop-at.out
behind c =
    let l = c.loop-at in
    omega (arith, (went c).fits, length-take (length l.out - l.length) (drop l.length l.out), length-drop l.length l.out, l.invariant.1, l.invariant.2)

pub overflow_add-length : goal.overflow_add-length
overflow_add-length c = record { fits = omega (arith, behind c, c.loop-at.invariant.1) }

pub loop-at-smaller : goal.loop-at-smaller
loop-at-smaller c = omega (arith, (went c).on, c.loop-at-test.true)

pub loop-at-preserved : goal.loop-at-preserved
loop-at-preserved c = (search rules, search rules, omega (arith, behind c, c.loop-at.invariant.1))
