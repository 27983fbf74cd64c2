-- `cubes::uncovered` meets its contract, and ends: each call of itself has a larger mask. Assumes nothing.
use mathlib.Core.Path.{subst}
use Prim.Native.Nat.{ℕ, ◌-◌, ◌<◌}
use lib.Bits.{bit_or}
use Rattle.cubes.proofs.Steps.{leaf_open, still_one, still_zero, found_one, then_zero, grows, free_bit, less_left}
use Rattle.cubes.proofs.+uncovered.Goals as goal

pub returns-then-mixed-eq0 : goal.returns-then-mixed-eq0
returns-then-mixed-eq0 t c =
    let a = c.args in
    let s = c.in-Some in
    leaf_open a.ms.now a.ps.now a.cm a.cp c.requires.2 _ _ s.ensures
    c.if-mixed-eq0.true

pub uncovered-requires : goal.uncovered-requires
uncovered-requires t c =
    let a = c.args in
    let s = c.in-Some in
    let l = c.lowest-t in
    let b = l.ensures in
    let f = free_bit a.cm s.wanted.ones s.wanted.zeros l.result b s.ensures.ones_free in (
      subst (λ (j : ℕ). 18446744073709551616 - bit_or a.cm l.result < j) c.decreases (less_left 18446744073709551616 a.cm (bit_or a.cm l.result) c.ranges.cm.fits (grows a.cm a.cp l.result c.requires.2 f b.place b.power)),
      (c.requires.0, c.requires.1, still_one a.cm a.cp l.result c.requires.2),
    )

pub returns-then-uncovered : goal.returns-then-uncovered
returns-then-uncovered t c =
    let a = c.args in
    let s = c.in-Some in
    let l = c.lowest-t in
    found_one a.cm a.cp l.result c.requires.2 (free_bit a.cm s.wanted.ones s.wanted.zeros l.result l.ensures s.ensures.ones_free) a.ms.now a.ps.now
    c.if-uncovered.ensures

pub uncovered-requires-2 : goal.uncovered-requires-2
uncovered-requires-2 t c =
    let a = c.args in
    let s = c.in-Some in
    let l = c.lowest-t in
    let b = l.ensures in
    let f = free_bit a.cm s.wanted.ones s.wanted.zeros l.result b s.ensures.ones_free in (
      subst (λ (j : ℕ). 18446744073709551616 - bit_or a.cm l.result < j) c.decreases (less_left 18446744073709551616 a.cm (bit_or a.cm l.result) c.ranges.cm.fits (grows a.cm a.cp l.result c.requires.2 f b.place b.power)),
      (c.requires.0, c.requires.1, still_zero a.cm a.cp l.result c.requires.2),
    )

pub returns : goal.returns
returns t c =
    let a = c.args in
    let s = c.in-Some in
    let l = c.lowest-t in
    then_zero a.cm a.cp l.result c.requires.2 (free_bit a.cm s.wanted.ones s.wanted.zeros l.result l.ensures s.ensures.ones_free) a.ms.now a.ps.now
    l.ensures.place l.ensures.power c.uncovered-2.result
    c.if-uncovered.ensures
    c.uncovered-2.ensures
