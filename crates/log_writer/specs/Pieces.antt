-- The pieces of a line's text. Assumes nothing.
use Rattle.std.specs.Prelude.{ℕ, ◌/◌, ◌%◌, Bool, List, [], ◌∷◌, ◌++◌}
use Rattle.text.specs.Text.{decimal}
use Rattle.candump.specs.Line.{second, Logged, opens, point, closes, blank, name_text, micro_text}

abbrev pub logged_as : ℕ → ℕ → Bool → ℕ → List ℕ → Logged
logged_as t l w n b = record { time = t; line = l; wide = w; id = n; bytes = b }

-- (seconds.microseconds)
unfoldable pub time_text : ℕ → List ℕ
time_text time = opens ∷ (decimal (time / second) ++ (point ∷ (micro_text (time % second) ++ (closes ∷ []))))

-- a name between two blanks
unfoldable pub name_part : ℕ → List ℕ
name_part line = blank ∷ (name_text line ++ (blank ∷ []))
