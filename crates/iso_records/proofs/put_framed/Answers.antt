-- `iso_records::put_framed` meets its contract: the record of a frame. Assumes nothing.
use mathlib.Core.Path.{ap, ◌∙◌}
use Prim.Native.Nat.{ℕ}
use mathlib.Core.List.{◌++◌}
use Rattle.machine.specs.Message.{id_bytes}
use Rattle.iso.specs.Iso.{framed}
use Rattle.iso_layout.specs.Record.{rec536}
use Rattle.iso_records.specs.Told.{told}
use Rattle.iso_records.proofs.put_framed.Goals as goal

pub returns : goal.returns
unfolding framed told
returns c =
    c.put.ensures ∙ ap (λ (k : ℕ). rec536.put (told 0 k 0 (id_bytes c.args.id ++ c.args.bytes.now))) c.width_flag.ensures
