-- `integers::put_id` meets its contract. Assumes nothing.
use mathlib.Core.Path.{◌∙◌}
use Rattle.machine.specs.Message.{id_bytes}
use Rattle.integers.proofs.put_id.Goals as goal

pub returns : goal.returns
unfolding id_bytes
returns c = c.copy_from_slice.ensures.after ∙ c.to_be_bytes.ensures
