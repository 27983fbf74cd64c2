-- `text_reader::at_most_far` meets its contract. Assumes nothing.
use mathlib.Core.Path.{sym}
use native.Mathlib.Omega.{arith}
use Rattle.text_reader.proofs.Digits.{near_is, near_far}
use Rattle.text_reader.proofs.at_most_far.Goals as goal

pub returns-then-v-le-FAR : goal.returns-then-v-le-FAR
returns-then-v-le-FAR c = sym (near_is _ c.if-v-le-FAR.true)

pub returns : goal.returns
returns c = sym (near_far c.args.v (omega arith))
