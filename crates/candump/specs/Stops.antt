-- Why a line stops an import, as code says it. Assumes nothing.
use Rattle.std.specs.Prelude.{ℕ}
use Rattle.candump.specs.declared.Stop.{Stop}
use Rattle.candump.specs.declared.Stop.TheVariants.{Malformed, Unknown, GoesBack, NoRoom}
use Rattle.candump.specs.Log.{is_malformed, is_unknown, goes_back, does_not_fit}

-- the number of each reason
abbrev pub reason_of : Stop → ℕ
reason_of Malformed = is_malformed
reason_of Unknown = is_unknown
reason_of GoesBack = goes_back
reason_of NoRoom = does_not_fit
