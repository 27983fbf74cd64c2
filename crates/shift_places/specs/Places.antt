-- P10: where each number of the shift report stands among the eleven of its channel, in the request's order. Assumes nothing.
use Rattle.std.specs.Prelude.{ℕ, ◌*◌, List, [], ◌∷◌}
use Rattle.machine.specs.Limits.{lines}

abbrev pub at_offered : ℕ
at_offered = 0

abbrev pub at_width : ℕ
at_width = 1

abbrev pub at_unmatched : ℕ
at_unmatched = 2

abbrev pub at_blocked : ℕ
at_blocked = 3

abbrev pub at_passed : ℕ
at_passed = 4

abbrev pub at_echoed : ℕ
at_echoed = 5

abbrev pub at_lost : ℕ
at_lost = 6

abbrev pub at_read : ℕ
at_read = 7

abbrev pub at_cleared : ℕ
at_cleared = 8

abbrev pub at_dropped : ℕ
at_dropped = 9

abbrev pub at_held : ℕ
at_held = 10

-- a channel's numbers, and all
abbrev pub of_channel : ℕ
of_channel = 11

abbrev pub of_report : ℕ
of_report = lines * of_channel

-- in the order in which code names them
abbrev pub named : List ℕ
named =
    at_offered ∷ at_width ∷ at_unmatched ∷ at_blocked ∷ at_passed ∷ at_echoed ∷ at_lost ∷ at_read ∷ at_cleared ∷ at_dropped ∷ at_held ∷ of_channel ∷ of_report ∷ []
