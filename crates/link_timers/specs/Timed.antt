-- An opening telegram with its repeats, some microseconds later. Assumes nothing.
use Rattle.std.specs.Prelude.{ℕ, ◌+◌, ◌-◌, leb, ltb, if◌then◌else◌}
use Rattle.std.proofs.Math.Option.{Option, none, some}
use Rattle.link.specs.Connection.{mntc, Trial, waits, flies, runs}

-- when T_E is over it waits again, up to ten times; none where that is past
unfoldable pub trial_later : ℕ → ℕ → Trial → Option (ℕ × Trial)
trial_later t n waits = some (n, waits)
trial_later t n flies = some (n, flies)
trial_later t n (runs left) = if ltb t left then some (n, runs (left - t)) else if leb mntc n then none else some (n + 1, waits)

unfoldable pub trials_later : ℕ → ℕ × Trial → Option (ℕ × Trial)
trials_later t p = trial_later t p.0 p.1
