use mathlib.Core.Bool.{true, false}
use native.Mathlib.Omega.{arith}
use Rattle.iso_frames.proofs.Region.{short_frame, stays_shut, is_open, is_concerned, none_left, first_left, second_left}
use Rattle.iso_frames.proofs.frame.Goals as goal

pub returns-then-r-eq0 : goal.returns-then-r-eq0
returns-then-r-eq0 c = stays_shut c.args.r.now c.requires.0 c.requires.1 c.args.clock c.args.wide c.args.id c.args.bytes.now c.if-r-eq0.true

pub listen-requires : goal.listen-requires
listen-requires c =
    let a = c.args in (
      is_open a.r.now c.requires.0 c.requires.1 a.clock a.wide a.id a.bytes.now c.if-r-eq0.false c.requires.2,
      omega arith,
      is_concerned a.r.now c.requires.0 c.requires.1 a.clock a.wide a.id a.bytes.now c.if-r-eq0.false c.requires.2 0 (omega arith) _ c.concerns.ensures true c.if-concerns.true,
      short_frame a.wide a.id a.bytes.now c.requires.2,
    )

pub returns-then-concerns : goal.returns-then-concerns
returns-then-concerns c =
    let a = c.args in
    first_left a.r.now c.requires.0 c.requires.1 a.clock a.wide a.id a.bytes.now c.if-r-eq0.false c.requires.2
    (is_concerned a.r.now c.requires.0 c.requires.1 a.clock a.wide a.id a.bytes.now c.if-r-eq0.false c.requires.2 0 (omega arith) _ c.concerns.ensures true c.if-concerns.true) _ c.listen.ensures

pub listen-requires-then-concerns-2 : goal.listen-requires-then-concerns-2
listen-requires-then-concerns-2 c =
    let a = c.args in (
      is_open a.r.now c.requires.0 c.requires.1 a.clock a.wide a.id a.bytes.now c.if-r-eq0.false c.requires.2,
      omega arith,
      is_concerned a.r.now c.requires.0 c.requires.1 a.clock a.wide a.id a.bytes.now c.if-r-eq0.false c.requires.2 1 (omega arith) _ c.concerns-2.ensures true c.if-concerns-2.true,
      short_frame a.wide a.id a.bytes.now c.requires.2,
    )

pub returns-then-concerns-2 : goal.returns-then-concerns-2
returns-then-concerns-2 c =
    let a = c.args in
    second_left a.r.now c.requires.0 c.requires.1 a.clock a.wide a.id a.bytes.now c.if-r-eq0.false c.requires.2
    (is_concerned a.r.now c.requires.0 c.requires.1 a.clock a.wide a.id a.bytes.now c.if-r-eq0.false c.requires.2 0 (omega arith) _ c.concerns.ensures false c.if-concerns.false)
    (is_concerned a.r.now c.requires.0 c.requires.1 a.clock a.wide a.id a.bytes.now c.if-r-eq0.false c.requires.2 1 (omega arith) _ c.concerns-2.ensures true c.if-concerns-2.true) _ c.listen-then-concerns-2.ensures

pub returns-else-concerns-2 : goal.returns-else-concerns-2
returns-else-concerns-2 c =
    let a = c.args in
    none_left a.r.now c.requires.0 c.requires.1 a.clock a.wide a.id a.bytes.now c.if-r-eq0.false c.requires.2
    (is_concerned a.r.now c.requires.0 c.requires.1 a.clock a.wide a.id a.bytes.now c.if-r-eq0.false c.requires.2 0 (omega arith) _ c.concerns.ensures false c.if-concerns.false)
    (is_concerned a.r.now c.requires.0 c.requires.1 a.clock a.wide a.id a.bytes.now c.if-r-eq0.false c.requires.2 1 (omega arith) _ c.concerns-2.ensures false c.if-concerns-2.false)
