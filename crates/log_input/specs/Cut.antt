-- How much of a log is read. Assumes nothing.
use Rattle.std.specs.Prelude.{ℕ, ◌+◌, List, [], ◌∷◌, eqb, leb, length, take, if◌then◌else◌, Option, Some, None}
use Rattle.candump.specs.Log.{newline}
use Rattle.log_input.specs.declared.Cut.{Cut}

-- the room for a log
abbrev pub longest_log : ℕ
longest_log = 262_144

abbrev pub cut_at : ℕ → Option ℕ → Cut
cut_at e n = record { end = e; line = n }

-- from place i on, where the last line that is whole so far ended at e, and line n is next
unfoldable pub whole_from : ℕ → ℕ → ℕ → List ℕ → Cut
whole_from i e n [] = cut_at e (Some n)
whole_from i e n (c ∷ cs) = if eqb c newline then whole_from (i + 1) (i + 1) (n + 1) cs else whole_from (i + 1) e n cs

-- the end of the last line that is whole, and the number of the line behind it
unfoldable pub whole_of : List ℕ → Cut
whole_of log = whole_from 0 0 1 log

-- WHAT IS READ of a log: all of it, or where it is too long the lines that are whole in the room
unfoldable pub cut_of : List ℕ → Cut
cut_of log = if leb (length log) longest_log then cut_at (length log) None else whole_of (take longest_log log)
