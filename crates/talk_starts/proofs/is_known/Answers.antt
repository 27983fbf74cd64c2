-- `talk_starts::is_known` meets its contract: by what stands in the place. Assumes nothing.
use Rattle.talk_starts.proofs.Laws.{free_knows, taken_knows}
use Rattle.talk_starts.proofs.is_known.Goals as goal

pub returns-then-t-eq0 : goal.returns-then-t-eq0
returns-then-t-eq0 c =
    let a = c.args in
    λ flags. free_knows flags a.t.now a.wide a.pattern a.flow c.if-t-eq0.true

pub returns : goal.returns
returns c =
    let a = c.args in
    λ flags. taken_knows flags a.t.now a.wide a.pattern a.flow c.if-t-eq0.false _ _ c.word_at-a.ensures.0 c.word_at-b.ensures.0
