-- `link_ending::leave` meets its contract: zeros, then what stays. Assumes nothing.
use mathlib.Core.Path.{ap, ◌∙◌}
use lib.ListN.{length-set}
use Rattle.codec.specs.Plain.{zeros}
use Rattle.codec.specs.Word.{word, word_at}
use Rattle.link_layout.specs.Sizes.{tx_id_at}
use Rattle.link_layout.specs.Connection.{exit_of}
use Rattle.link_ending.proofs.Ends.{left_bytes}
use borrow.Author.Rules.{rules}
use Rattle.link_ending.proofs.leave.Goals as goal

pub shape_of-part : goal.shape_of-part
shape_of-part c = simp length-set (search rules)

pub returns : goal.returns
returns c =
    left_bytes (word_at tx_id_at c.args.part.now) (exit_of c.args.which c.args.n) _ _ _
    (c.zero.ensures ∙ ap (λ k. zeros k) c.requires.0)
    (c.put_word.ensures ∙ ap word c.word_at-tx.ensures.0)
    c.put_exit.ensures
