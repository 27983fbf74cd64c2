use mathlib.Core.Path.{refl, subst}
use Prim.Native.Nat.{ℕ, ◌-◌, ◌≤◌, ◌<◌, min}
use native.Mathlib.Omega.{arith}
use lib.ListN.{length}
use Rattle.talk_head.specs.Headed.{headed}
use Rattle.talk_hearing.proofs.Laws.{next_short, next_other, next_more, next_last}
use Rattle.talk_hearing.proofs.next.Goals as goal

pub overflow_sub-missing : goal.overflow_sub-missing
overflow_sub-missing c = c.requires.2.part c.requires.1

pub returns-then-bytes-least : goal.returns-then-bytes-least
returns-then-bytes-least c =
    (next_short c.args.h c.args.bytes.now c.requires.1 c.args.held _ refl (subst (λ (n : ℕ). length c.args.bytes.now ≤ n) c.least.ensures c.if-bytes-least.true), tt)

pub returns-then-low-number_after : goal.returns-then-low-number_after
returns-then-low-number_after c = (
  next_other c.args.h c.args.bytes.now c.requires.1 c.args.held _ refl (subst (λ (n : ℕ). n < length c.args.bytes.now) c.least.ensures c.if-bytes-least.false) _ _
      c.low.ensures.0 c.number_after.ensures c.if-low-number_after.true,
  tt,
)

pub returns-then-missing-gt-IN_FRAME : goal.returns-then-missing-gt-IN_FRAME
unfolding headed
returns-then-missing-gt-IN_FRAME c =
    let long : min 7 (c.args.h.n - c.args.held) < length c.args.bytes.now = subst (λ (n : ℕ). n < length c.args.bytes.now) c.least.ensures c.if-bytes-least.false in
    let more : 7 < c.args.h.n - c.args.held = c.if-missing-gt-IN_FRAME.true in
    let most = c.requires.2.whole c.requires.1 in (
      next_more c.args.h c.args.bytes.now c.requires.1 c.args.held _ refl long _ _ c.low.ensures.0 c.number_after.ensures c.if-low-number_after.false more,
      (λ p. refl, omega arith, omega arith),
    )

pub returns : goal.returns
returns c =
    let long : min 7 (c.args.h.n - c.args.held) < length c.args.bytes.now = subst (λ (n : ℕ). n < length c.args.bytes.now) c.least.ensures c.if-bytes-least.false in
    let few : c.args.h.n - c.args.held ≤ 7 = c.if-missing-gt-IN_FRAME.false in
    let most = c.requires.2.whole c.requires.1 in
    let part = c.requires.2.part c.requires.1 in (
      next_last c.args.h c.args.bytes.now c.requires.1 c.args.held _ refl long _ _ c.low.ensures.0 c.number_after.ensures c.if-low-number_after.false few,
      (omega arith, omega arith),
    )
