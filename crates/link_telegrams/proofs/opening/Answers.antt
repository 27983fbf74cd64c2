-- `link_telegrams::opening` meets its contract: the fields are those of what was asked for. Assumes nothing.
use mathlib.Core.Path.{◌∙◌, ap}
use Prim.Native.Nat.{ℕ}
use native.Mathlib.Omega.{arith}
use Rattle.telegram.specs.Telegram.{Opening, opening_fits, opening_bytes}
use Rattle.link_telegrams.specs.Given.{given}
use Rattle.link_telegrams.proofs.Laws.{rx_narrow, set_up_is, set_up_fits}
use Rattle.link_telegrams.proofs.opening.Goals as goal

pub overflow_cast-rx_id : goal.overflow_cast-rx_id
overflow_cast-rx_id c = omega (arith, rx_narrow c.args.s.now c.requires, c.word_at-rx_id.ensures.0)

pub set_up-requires : goal.set_up-requires
set_up-requires c =
    ap (λ (x : ℕ × Opening). opening_fits x.0 x.1) (set_up_is c.args.s.now c.requires _ _ c.word_at-id.ensures.0 c.word_at-rx_id.ensures.0)
    ∙ set_up_fits c.args.s.now c.requires

pub returns : goal.returns
returns c =
    c.set_up.ensures
    ∙ ap (λ (x : ℕ × Opening). given x.0 (opening_bytes x.1)) (set_up_is c.args.s.now c.requires _ _ c.word_at-id.ensures.0 c.word_at-rx_id.ensures.0)
