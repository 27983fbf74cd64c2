use mathlib.Core.Path.{refl, ap₂}
use Prim.Native.Nat.{ℕ, ◌+◌, ◌*◌}
use Rattle.talk_head.specs.Headed.{headed}
use Rattle.talk_hearing.proofs.Laws.{first_same, first_short, first_small, first_refused, first_starts}
use Rattle.talk_hearing.proofs.first.Goals as goal

pub returns-then-same : goal.returns-then-same
returns-then-same c = (first_same c.args.bytes.now _ c.if-same.true, λ held. tt)

pub returns-then-bytes-lt-WHOLE : goal.returns-then-bytes-lt-WHOLE
returns-then-bytes-lt-WHOLE c = (first_short c.args.bytes.now _ c.if-same.false c.if-bytes-lt-WHOLE.true, λ held. tt)

pub returns-then-size-lt-LEAST : goal.returns-then-size-lt-LEAST
returns-then-size-lt-LEAST c =
    (first_small c.args.bytes.now _ c.if-same.false c.if-bytes-lt-WHOLE.false _ (ap₂ (λ (x y : ℕ). x * 256 + y) c.wide.ensures.0 c.wide-2.ensures.0) c.if-size-lt-LEAST.true, λ held. tt)

pub returns-then-size-gt-MOST : goal.returns-then-size-gt-MOST
returns-then-size-gt-MOST c =
    (first_refused c.args.bytes.now _ c.if-same.false c.if-bytes-lt-WHOLE.false _ (ap₂ (λ (x y : ℕ). x * 256 + y) c.wide.ensures.0 c.wide-2.ensures.0) c.if-size-lt-LEAST.false c.if-size-gt-MOST.true, λ held. tt)

pub returns : goal.returns
unfolding headed
returns c = (
  first_starts c.args.bytes.now _ c.if-same.false c.if-bytes-lt-WHOLE.false _ (ap₂ (λ (x y : ℕ). x * 256 + y) c.wide.ensures.0 c.wide-2.ensures.0) c.if-size-lt-LEAST.false c.if-size-gt-MOST.false,
  λ held. (λ p. refl, c.if-bytes-lt-WHOLE.false),
)
