-- `answers::put_done` meets its contract. Assumes nothing.
use native.Mathlib.Omega.{arith}
use Rattle.answers.proofs.Put.{number_fits, second_fits, put_ok, put_err}
use Rattle.answers.proofs.put_done.Goals as goal

pub put_number-next-requires : goal.put_number-next-requires
put_number-next-requires c = number_fits c.args.out.now c.args.at c.code_of.result (omega arith)

pub returns-in_default : goal.returns-in_default
returns-in_default c = put_err c.put_number-next.ensures c.requires c.code_of.ensures.0 c.in_default.is

pub put_number-requires : goal.put_number-requires
put_number-requires c = second_fits c.put_number-next.ensures c.requires _

pub returns : goal.returns
returns c = put_ok c.put_number-next.ensures c.requires c.code_of.ensures.0 c.in-Ok.is c.put_number.ensures
