-- The data of a line that were read, and the mark of a width. Assumes nothing.
use Rattle.std.specs.Prelude.{ℕ, ◌≡◌, Bool, List, if◌then◌else◌}
use Rattle.std.proofs.Math.Option.{some}
use Rattle.candump.specs.Line.{data_in}
use Rattle.log_reader.specs.Reading.{data_of}

-- the digits of a line's data make these bytes
abbrev pub GoodData : List ℕ → Type 0
GoodData text = data_in text ≡ some (data_of text)

-- a narrow frame has the mark 0, a wide one 1
abbrev pub mark_of : Bool → ℕ
mark_of wide = if wide then 1 else 0
