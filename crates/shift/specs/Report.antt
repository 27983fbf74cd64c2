-- P10: the shift report of a recording, as numbers and as text. Assumes nothing.
use Rattle.std.specs.Prelude.{ℕ, ◌+◌, List, [], ◌∷◌, ◌++◌, map}
use Rattle.text.specs.Text.{decimal}
use Rattle.machine.specs.Step.{Event}
use Rattle.whole.specs.Device.{Device, power_on}
use Rattle.edition.specs.Edition.{rates_of}
use Rattle.event_list.specs.Run.{events_of}
use Rattle.shift.specs.Numbers.{offered, width, unmatched, blocked, passed, echoed, lost, reads, cleared, dropped, held, tally, Number}

-- the ten that are counted event by event, in their order
abbrev pub ten : List Number
ten = offered ∷ width ∷ unmatched ∷ blocked ∷ passed ∷ echoed ∷ lost ∷ reads ∷ cleared ∷ dropped ∷ []

-- ten sums over a run, and what is held at its end
unfoldable pub eleven : List ℕ → ℕ → Device → List Event → List ℕ
eleven rates i d es = map (λ (f : Number). tally f rates i d es) ten ++ (held rates i d es ∷ [])

-- THE NUMBERS of a recording, from power-on, with the rates of its edition, for the channel of line i
unfoldable pub numbers_of : List ℕ → ℕ → List ℕ
numbers_of recording i = eleven (rates_of recording) i power_on (events_of recording)

-- what there is of each of the four channels, one after the other
unfoldable pub of_four : (ℕ → List ℕ) → List ℕ
of_four f = f 0 ++ (f 1 ++ (f 2 ++ f 3))

-- all 44
unfoldable pub all_numbers : List ℕ → List ℕ
all_numbers recording = of_four (numbers_of recording)

-- each number after a space
unfoldable pub spaced : List ℕ → List ℕ
spaced [] = []
spaced (n ∷ ns) = 0x20 ∷ (decimal n ++ spaced ns)

-- a line: the channel and its eleven numbers
unfoldable pub line : List ℕ → ℕ → List ℕ
line recording i = decimal (i + 1) ++ spaced (numbers_of recording i) ++ (0x0A ∷ [])

-- THE REPORT: a line each for channels 1 to 4
unfoldable pub report : List ℕ → List ℕ
report recording = of_four (line recording)
