use mathlib.Core.Path.{refl}
use native.Mathlib.Omega.{arith}
use Rattle.talk_hearing.specs.declared.Means.TheVariants.{Nothing}
use Rattle.talk_hearing.proofs.Laws.{hears_nothing, hears_flow, hears_busy, hears_single, hears_first, hears_other, hears_next, next_none}
use Rattle.talk_hearing.proofs.meaning.Goals as goal

pub returns-then-bytes-lt1 : goal.returns-then-bytes-lt1
returns-then-bytes-lt1 c = (hears_nothing c.args.h c.args.held c.args.same c.args.bytes.now c.if-bytes-lt1.true, tt)

pub returns-then-high-eq-FLOW : goal.returns-then-high-eq-FLOW
returns-then-high-eq-FLOW c =
    (hears_flow c.args.h c.args.held c.args.same c.args.bytes.now _ refl _ c.if-high-eq-FLOW.true c.flow.ensures.0, c.flow.ensures.1 c.args.held)

pub returns-then-kind-gt-RECEIVES : goal.returns-then-kind-gt-RECEIVES
returns-then-kind-gt-RECEIVES c =
    (hears_busy c.args.h c.args.held c.args.same c.args.bytes.now _ refl Nothing c.if-high-eq-FLOW.false c.if-kind-gt-RECEIVES.true, tt)

pub returns-then-high-eq-SINGLE : goal.returns-then-high-eq-SINGLE
returns-then-high-eq-SINGLE c =
    (hears_single c.args.h c.args.held c.args.same c.args.bytes.now _ refl _ c.if-high-eq-FLOW.false c.if-kind-gt-RECEIVES.false c.if-high-eq-SINGLE.true c.single.ensures.0, c.single.ensures.1 c.args.held)

pub returns-then-high-eq-FIRST : goal.returns-then-high-eq-FIRST
returns-then-high-eq-FIRST c =
    (hears_first c.args.h c.args.held c.args.same c.args.bytes.now _ refl _ c.if-high-eq-FLOW.false c.if-kind-gt-RECEIVES.false c.if-high-eq-SINGLE.false c.if-high-eq-FIRST.true c.first.ensures.0, c.first.ensures.1 c.args.held)

pub returns-then-high-ne-NEXT : goal.returns-then-high-ne-NEXT
returns-then-high-ne-NEXT c =
    (hears_other c.args.h c.args.held c.args.same c.args.bytes.now _ refl Nothing c.if-high-eq-FLOW.false c.if-kind-gt-RECEIVES.false c.if-high-eq-SINGLE.false c.if-high-eq-FIRST.false c.if-high-ne-NEXT.true, tt)

pub returns-then-kind-lt-RECEIVES : goal.returns-then-kind-lt-RECEIVES
returns-then-kind-lt-RECEIVES c = (
  hears_next c.args.h c.args.held c.args.same c.args.bytes.now _ refl Nothing c.if-high-eq-FLOW.false c.if-kind-gt-RECEIVES.false c.if-high-eq-SINGLE.false c.if-high-eq-FIRST.false c.if-high-ne-NEXT.false
      (next_none c.args.h c.args.held c.args.same c.args.bytes.now c.if-kind-lt-RECEIVES.true),
  tt,
)

pub next-requires : goal.next-requires
next-requires c =
    let long = c.if-bytes-lt1.false in
    let least = c.if-kind-lt-RECEIVES.false in
    let most = c.if-kind-gt-RECEIVES.false in
    (omega arith, omega arith, c.requires)

pub returns : goal.returns
returns c =
    (hears_next c.args.h c.args.held c.args.same c.args.bytes.now _ refl _ c.if-high-eq-FLOW.false c.if-kind-gt-RECEIVES.false c.if-high-eq-SINGLE.false c.if-high-eq-FIRST.false c.if-high-ne-NEXT.false c.next.ensures.0, c.next.ensures.1)
