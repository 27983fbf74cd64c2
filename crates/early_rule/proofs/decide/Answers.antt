-- `early_rule::decide` meets its contract. Assumes nothing.
use mathlib.Core.Path.{◌∙◌, sym}
use Rattle.decision.specs.Number.{said}
use Rattle.early_rule.proofs.Choice.{answer_passes, answer_see, answer_drops}
use Rattle.early_rule.proofs.decide.Goals as goal

pub returns-then-all_pass : goal.returns-then-all_pass
unfolding said
returns-then-all_pass c =
    let a = c.args in
    λ fs wide id q. answer_passes a.heads.now a.ms.now a.ps.now fs wide id q (sym c.if-all_pass.true ∙ c.all_pass.ensures)

pub returns-then-some_passes : goal.returns-then-some_passes
unfolding said
returns-then-some_passes c =
    let a = c.args in
    λ fs wide id q.
    answer_see a.heads.now a.ms.now a.ps.now fs wide id q (sym c.if-all_pass.false ∙ c.all_pass.ensures) _ c.if-some_passes.true c.some_passes.ensures

pub returns : goal.returns
unfolding said
returns c =
    let a = c.args in
    λ fs wide id q. answer_drops a.heads.now a.ms.now a.ps.now fs wide id q _ c.if-some_passes.false c.some_passes.ensures
