-- `box_times::advance_isos` meets its contract. Assumes nothing.
use mathlib.Core.Path.{refl}
use Prim.Native.Nat.{◌+◌, ◌*◌, ◌-◌}
use native.Mathlib.Omega.{arith}
use Rattle.iso.specs.Iso.{on_iso_advance, shut}
use Rattle.iso_layout.specs.Sizes.{iso_region_size}
use Rattle.iso_layout.proofs.Lawful.{iso_region_lawful}
use Rattle.iso_layout.proofs.Sizes.{iso_region_size_law}
use Rattle.iso_layout.proofs.Good.{fine_shut}
use Rattle.memory.proofs.Lines.{turns_start, turn_lent, turn_made, turns_done}
use Rattle.box_times.proofs.Laws.{iso_advance_keeps}
use Rattle.box_times.proofs.advance_isos.Goals as goal

pub loop-i-init : goal.loop-i-init
loop-i-init c =
    let us = c.args.us in
    (omega arith, turns_start iso_region_lawful iso_region_size iso_region_size_law (on_iso_advance us) (iso_advance_keeps us) shut fine_shut c.args.s.now c.requires.0 c.requires.1, refl)

pub later-requires : goal.later-requires
later-requires c =
    let us = c.args.us in
    let at = c.loop-i in
    let p = turn_lent iso_region_lawful iso_region_size iso_region_size_law (on_iso_advance us) (iso_advance_keeps us) shut fine_shut c.args.s.now c.requires.0 c.requires.1 at.s at.i (omega arith) at.invariant.1 (at.i * iso_region_size + iso_region_size - at.i * iso_region_size) (omega arith) in
    (p.0, p.1, c.requires.2)

pub loop-i-preserved : goal.loop-i-preserved
loop-i-preserved c =
    let us = c.args.us in
    let at = c.loop-i in
    let q = turn_made iso_region_lawful iso_region_size iso_region_size_law (on_iso_advance us) (iso_advance_keeps us) shut fine_shut c.args.s.now c.requires.0 c.requires.1 at.s at.i (omega arith) at.invariant.1 (at.i * iso_region_size + iso_region_size - at.i * iso_region_size) (omega arith) c.later.new.r c.later.ensures in
    (omega arith, q, omega arith)

pub returns : goal.returns
returns c =
    let us = c.args.us in
    let at = c.loop-i in
    turns_done iso_region_lawful iso_region_size iso_region_size_law (on_iso_advance us) (iso_advance_keeps us) shut fine_shut c.args.s.now c.requires.0 c.requires.1 at.s at.i (omega arith) at.invariant.1
