-- What a case of the answer says, and its number. Assumes nothing.
use Rattle.std.specs.Prelude.{ℕ, Result, Ok, Err}
use Rattle.codes.specs.declared.Refusal.{Refusal}
use Rattle.machine.specs.Early.{Early, drops, passes_all, must_see, early_number}
use Rattle.decision.specs.declared.Decision.{Decision}
use Rattle.decision.specs.declared.Decision.TheVariants.{Dropped, Passes, MustSee}

unfoldable pub said : Decision → Early
said Dropped = drops
said Passes = passes_all
said MustSee = must_see

unfoldable pub number_of : Decision → ℕ
number_of d = early_number (said d)

-- the number that an answer tells: that of its decision, 0 where it is a refusal
abbrev pub told : Result Decision Refusal → ℕ
told (Ok d) = number_of d
told (Err refusal) = 0
