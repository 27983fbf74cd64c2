-- `shift_counts::count_each_held` meets its contract. The invariant: the lines below are counted. Assumes nothing.
use mathlib.Core.Path.{◌∙◌}
use Prim.Native.Nat.{◌+◌, ◌*◌}
use native.Mathlib.Omega.{arith}
use Rattle.memory.specs.Memory.{load}
use Rattle.memory.proofs.Memory.{valid_long}
use Rattle.recording_sizes.specs.Sizes.{longest}
use Rattle.shift_places.specs.Places.{of_channel}
use Rattle.shift_counts.proofs.Lines.{lent, first_added, next_added, all_added}
use Rattle.shift_counts.proofs.count_each_held.Goals as goal

pub loop-line-init : goal.loop-line-init
loop-line-init c =
    (omega arith, c.requires.2.long, (λ k. omega (arith, c.requires.2.small k)), first_added c.args.numbers.now c.requires.2 c.args.which (load c.args.mem.now))

pub held-held-requires : goal.held-held-requires
held-held-requires c = lent c.args.mem.now c.requires.0 _ c.loop-line-test.true

pub add-requires : goal.add-requires
add-requires c =
    let l = c.loop-line in
    (l.invariant.1, c.loop-line-test.true, c.requires.1, omega (arith, l.invariant.2 (l.line * of_channel + c.args.which), c.held-held.ensures.1, c.loop-line-test.true))

pub loop-line-preserved : goal.loop-line-preserved
loop-line-preserved c =
    let l = c.loop-line in (
      omega arith,
      c.add.ensures.long ∙ l.invariant.1,
      (λ k. omega (arith, c.add.ensures.most (longest + l.line * 32) l.invariant.2 k, c.held-held.ensures.1)),
      next_added c.args.mem.now c.requires.0 c.args.which l.line c.loop-line-test.true c.args.numbers.now _ _ _ l.invariant.3 c.held-held.ensures.0 c.add.ensures.is,
    )

pub returns : goal.returns
returns c =
    let l = c.loop-line in
    all_added c.args.which (load c.args.mem.now) c.args.numbers.now _ l.line (omega (arith, c.loop-line-test.false)) l.invariant.3

pub slice_bounds-held-end : goal.slice_bounds-held-end
slice_bounds-held-end c = omega (arith, valid_long _ c.requires.0, c.loop-line-test.true)
