use mathlib.Core.Path.{◌≡◌}
use lib.ListN.{length, drop}
use Rattle.candump.specs.Line.{data_text}
use Rattle.log_writer.proofs.Writing.{Writing}
use Rattle.log_writer.proofs.put_data.Given as goal

abbrev pub invariant-loop-byte : goal.invariant-loop-byte
invariant-loop-byte l = (length l.out ≡ length l.initial.out) × Writing l.initial.out l.at (data_text l.bytes) (data_text (drop l.byte-index l.bytes)) l.place l.out
