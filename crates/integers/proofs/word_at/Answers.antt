-- `integers::word_at` meets its contract: what a slice of bytes holds is bytes. Assumes nothing.
use native.Mathlib.Omega.{arith}
use Rattle.codec.proofs.Lists.{bytes_of_law}
use Rattle.codec.specs.Word.{word_at}
use Rattle.integers.proofs.word_at.Goals as goal

pub returns : goal.returns
unfolding word_at
returns c = (omega (arith, c.from_le_bytes.ensures), bytes_of_law c.args.s.now (λ i. (c.type_inv.s i).fits))
