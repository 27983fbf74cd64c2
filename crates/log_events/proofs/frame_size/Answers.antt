-- `log_events::frame_size` meets its contract. Assumes nothing.
use Prim.Native.Nat.{ℕ, ◌/◌}
use mathlib.Core.List.{List}
use mathlib.Core.Path.{◌≡◌}
use native.Mathlib.Omega.{arith}
use lib.ListN.{length}
use Rattle.number.proofs.Laws.{written_short}
use Rattle.log_reader.specs.Reading.{data_of}
use Rattle.log_reader.proofs.Data.{data_size}
use Rattle.log_events.specs.Data.{GoodData}
use Rattle.log_events.proofs.Sizes.{frame_is}
use Rattle.log_events.proofs.frame_size.Goals as goal

-- as many bytes as pairs of digits
halves : (text : List ℕ) → GoodData text → length text / 2 ≡ length (data_of text)
halves text good = omega (arith, data_size text (data_of text) good)

pub overflow_add-result : goal.overflow_add-result
overflow_add-result c = record { fits = omega (arith, c.number_size.ensures, (written_short c.args.id).1) }

pub overflow_add-result-2 : goal.overflow_add-result-2
overflow_add-result-2 c = record { fits = omega (arith, c.number_size.ensures, (written_short c.args.id).1, halves c.args.text.now c.requires.0, c.requires.2) }

pub returns : goal.returns
returns c = omega (arith, c.number_size.ensures, halves c.args.text.now c.requires.0, frame_is c.args.line c.args.wide c.args.id (data_of c.args.text.now) c.requires.1 c.requires.2)
