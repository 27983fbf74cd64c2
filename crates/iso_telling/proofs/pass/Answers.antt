use mathlib.Core.Path.{subst}
use Prim.Native.Nat.{◌-◌, ◌≤◌}
use native.Mathlib.Omega.{arith}
use Rattle.iso.specs.Limits.{most_payload}
use Rattle.talk_telling.specs.declared.Told.{Told}
use Rattle.talk_telling.specs.Telling.{Short}
use Rattle.iso_telling.proofs.Passing.{none_passed, start_passed, message_passed, flag_small, part_few}
use Rattle.iso_telling.proofs.pass.Goals as goal

pub overflow_add-width_flag : goal.overflow_add-width_flag
overflow_add-width_flag c = omega (arith, c.width_flag.ensures, flag_small c.args.wide)

pub arrive-requires-in-Message : goal.arrive-requires-in-Message
arrive-requires-in-Message c = (c.requires.0, c.requires.1, part_few (c.in-Message.n - 0) c.args.scratch.now c.requires.3)

pub returns-in-Silence : goal.returns-in-Silence
returns-in-Silence c =
    let a = c.args in
    none_passed a.q.now a.clock a.wide a.id a.scratch.now a.said c.requires.0 c.in-Silence.is

pub returns-in-Start : goal.returns-in-Start
returns-in-Start c =
    let a = c.args in
    start_passed a.q.now a.clock a.wide a.id a.scratch.now a.said c.in-Start.is c.width_flag.result c.width_flag.ensures _ c.arrive.ensures

pub returns-in-Message : goal.returns-in-Message
returns-in-Message c =
    let a = c.args in
    message_passed a.q.now a.clock a.wide a.id a.scratch.now a.said c.in-Message.n c.in-Message.is c.width_flag-in-Message.result c.width_flag-in-Message.ensures _ c.arrive-in-Message.ensures

pub slice_bounds-arrive-end-in-Message : goal.slice_bounds-arrive-end-in-Message
slice_bounds-arrive-end-in-Message c =
    let few : c.in-Message.n ≤ most_payload = subst (λ (x : Told). Short x) c.in-Message.is c.requires.2 in
    omega (arith, few, c.requires.3)
