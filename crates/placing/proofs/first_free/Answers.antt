-- `placing::first_free` meets its contract. The invariant: the first i places are taken. The measure is 10 less i. Assumes nothing.
use mathlib.Core.Path.{sym, ◌∙◌}
use native.Mathlib.Omega.{arith}
use Rattle.placing.proofs.Placed.{free_next, free_found, free_full}
use Rattle.placing.proofs.first_free.Goals as goal

pub loop-i-init : goal.loop-i-init
loop-i-init c = (omega arith, λ flags. omega arith)

pub word_at-requires : goal.word_at-requires
word_at-requires c = omega (arith, c.requires.long)

pub returns-then-word_at-eq0 : goal.returns-then-word_at-eq0
returns-then-word_at-eq0 c =
    let here = c.loop-i in
    λ flags. free_found c.args.part.now c.requires here.i flags (here.invariant.1 flags) (omega arith) (sym c.word_at.ensures.0 ∙ c.if-word_at-eq0.true)

pub loop-i-preserved : goal.loop-i-preserved
loop-i-preserved c =
    let here = c.loop-i in
    (omega arith, λ flags. free_next c.args.part.now c.requires here.i flags (here.invariant.1 flags) (omega arith) (λ z. c.if-word_at-eq0.false (c.word_at.ensures.0 ∙ z)))

pub returns : goal.returns
returns c =
    let here = c.loop-i in
    λ flags. omega (arith, free_full c.args.part.now c.requires here.i flags (here.invariant.1 flags) (omega arith))
