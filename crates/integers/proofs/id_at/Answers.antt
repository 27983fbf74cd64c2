-- `integers::id_at` meets its contract. Assumes nothing.
use native.Mathlib.Omega.{arith}
use Rattle.integers.proofs.Laws.{id_there}
use Rattle.integers.proofs.id_at.Goals as goal

pub returns : goal.returns
returns c = omega (arith, c.from_be_bytes.ensures, id_there c.args.at c.args.s.now)
