-- `opening_reader::id_at` meets its contract. Assumes nothing.
use native.Mathlib.Omega.{arith}
use Rattle.telegram.specs.Telegram.{id_at}
use Rattle.opening_reader.proofs.id_at.Goals as goal

pub returns : goal.returns
unfolding id_at
returns c = rw c.from_le_bytes.ensures (omega arith)
