-- What a sent starts in a part of a connection: T_E of an opening telegram, T3 before a disconnect telegram, T_CTa of a test. Assumes nothing.
use Rattle.std.specs.Prelude.{ℕ, eqb, if◌then◌else◌}
use Rattle.link.specs.Connection.{t_test, micros, Trial, trial_sent, Care, Exit, due_in, due_behind, goes}

-- an opening telegram with its repeats
unfoldable pub trials_sent : ℕ × Trial → ℕ × Trial
trials_sent p = (p.0, trial_sent p.1)

-- a disconnect telegram, where an earlier telegram was sent
unfoldable pub behind_sent : Exit → Exit
behind_sent (due_in left) = due_in left
behind_sent (due_behind t3) = due_in (micros t3)
behind_sent goes = goes

-- the connection test, where a test was sent
unfoldable pub test_sent : Care → Care
test_sent c =
    record { answers = c.answers; tests = c.tests; unanswered = if eqb c.unanswered 0 then 1 else c.unanswered; left = t_test }

-- what is left of T1 at first: nothing where it never ends
unfoldable pub t1_left : ℕ → ℕ
t1_left t1 = if eqb t1 0xFF then 0 else micros t1
