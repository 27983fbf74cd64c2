-- `link_starts::data_sent` meets its contract: T1 runs behind the last telegram of a block. Assumes nothing.
use mathlib.Core.Path.{ap, sym, ◌∙◌}
use Prim.Native.Nat.{ℕ}
use mathlib.Core.List.{List, ◌∷◌}
use native.Mathlib.Omega.{arith}
use Rattle.codec.specs.Word.{word}
use Rattle.link_starts.proofs.Laws.{nothing_asked, counted_most, last_sent, more_to_send}
use Rattle.link_starts.proofs.data_sent.Goals as goal

pub block_of-requires : goal.block_of-requires
block_of-requires c = omega (arith, counted_most c.args.t1 c.args.size c.args.s.now c.requires.0 c.requires.1 c.if-s-eq-SENDS.true, c.word_at-n.ensures.0)

pub returns-then-wide-block_of : goal.returns-then-wide-block_of
returns-then-wide-block_of c =
    last_sent c.args.t1 c.args.size c.args.s.now c.requires.0 c.requires.1 c.if-s-eq-SENDS.true c.block_of.result
    (λ rest e. c.block_of.ensures.0 rest (e ∙ sym c.word_at-n.ensures.0)) (sym c.wide.ensures.0 ∙ c.if-wide-block_of.true) _
    (c.put_which.ensures ∙ ap {B = List ℕ} (λ (n : ℕ). 2 ∷ word n) c.t1_left.ensures)

pub returns-else-wide-block_of : goal.returns-else-wide-block_of
returns-else-wide-block_of c =
    more_to_send c.args.t1 c.args.size c.args.s.now c.requires.0 c.requires.1 c.if-s-eq-SENDS.true c.block_of.result
    (λ rest e. c.block_of.ensures.0 rest (e ∙ sym c.word_at-n.ensures.0)) (λ e. c.if-wide-block_of.false (c.wide.ensures.0 ∙ e))

pub returns-else-s-eq-SENDS : goal.returns-else-s-eq-SENDS
returns-else-s-eq-SENDS c = nothing_asked c.args.t1 c.args.size c.args.s.now c.requires.0 c.requires.1 c.if-s-eq-SENDS.false
