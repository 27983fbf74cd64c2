-- `answers::put_count` meets its contract. Assumes nothing.
use mathlib.Core.Path.{sym}
use native.Mathlib.Omega.{arith}
use Rattle.answers.proofs.Put.{number_fits, second_fits, put_counted}
use Rattle.answers.proofs.put_count.Goals as goal

pub put_number-next-requires : goal.put_number-next-requires
put_number-next-requires c = number_fits c.args.out.now c.args.at c.code_of.result (omega arith)

pub put_number-requires : goal.put_number-requires
put_number-requires c = second_fits c.put_number-next.ensures c.requires _

pub returns : goal.returns
returns c = rw (sym c.code_of.ensures.0) (put_counted c.put_number-next.ensures c.requires c.args.moved.count c.put_number.ensures)
