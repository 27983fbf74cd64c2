-- `integers::put_word` meets its contract. Assumes nothing.
use mathlib.Core.Path.{◌∙◌}
use Rattle.codec.specs.Word.{word}
use Rattle.integers.proofs.put_word.Goals as goal

pub returns : goal.returns
unfolding word
returns c = c.copy_from_slice.ensures.after ∙ c.to_le_bytes.ensures
