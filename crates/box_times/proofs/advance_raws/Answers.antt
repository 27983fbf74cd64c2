-- `box_times::advance_raws` meets its contract. Assumes nothing.
use mathlib.Core.Path.{refl}
use Prim.Native.Nat.{◌+◌, ◌*◌, ◌-◌}
use native.Mathlib.Omega.{arith}
use Rattle.machine.specs.Channel.{on_advance, closed}
use Rattle.layout.specs.Sizes.{region_size}
use Rattle.layout.proofs.Memory.{region_lawful}
use Rattle.layout.proofs.Sizes.{region_size_law}
use Rattle.layout.proofs.Good.{fine_closed}
use Rattle.memory.proofs.Lines.{turns_start, turn_lent, turn_made, turns_done}
use Rattle.box_times.proofs.Laws.{advance_keeps}
use Rattle.box_times.proofs.advance_raws.Goals as goal

pub loop-i-init : goal.loop-i-init
loop-i-init c =
    let us = c.args.us in
    (omega arith, turns_start region_lawful region_size region_size_law (on_advance us) (advance_keeps us) closed fine_closed c.args.s.now c.requires.0 c.requires.1, refl)

pub later-requires : goal.later-requires
later-requires c =
    let us = c.args.us in
    let at = c.loop-i in
    let p = turn_lent region_lawful region_size region_size_law (on_advance us) (advance_keeps us) closed fine_closed c.args.s.now c.requires.0 c.requires.1 at.s at.i (omega arith) at.invariant.1 (at.i * region_size + region_size - at.i * region_size) (omega arith) in
    (p.0, p.1, c.requires.2)

pub loop-i-preserved : goal.loop-i-preserved
loop-i-preserved c =
    let us = c.args.us in
    let at = c.loop-i in
    let q = turn_made region_lawful region_size region_size_law (on_advance us) (advance_keeps us) closed fine_closed c.args.s.now c.requires.0 c.requires.1 at.s at.i (omega arith) at.invariant.1 (at.i * region_size + region_size - at.i * region_size) (omega arith) c.later.new.r c.later.ensures in
    (omega arith, q, omega arith)

pub returns : goal.returns
returns c =
    let us = c.args.us in
    let at = c.loop-i in
    turns_done region_lawful region_size region_size_law (on_advance us) (advance_keeps us) closed fine_closed c.args.s.now c.requires.0 c.requires.1 at.s at.i (omega arith) at.invariant.1
