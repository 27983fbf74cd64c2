-- What a frame of its channel makes of a connection that stands. Assumes nothing.
use Rattle.std.specs.Prelude.{ℕ, true, false, List}
use Rattle.std.proofs.Math.Option.{Option}
use Rattle.telegram.specs.Telegram.{Telegram, read_channel}
use Rattle.link.specs.Connection.{t_test, Care, Connection, on_link, told}

-- by the bytes of the frame; by the telegram in them
unfoldable pub tells : List ℕ → Connection → Connection
tells b c = on_link c (λ a tx l. told a tx l (read_channel b)) c

unfoldable pub heeds : Option Telegram → Connection → Connection
heeds t c = on_link c (λ a tx l. told a tx l t) c

-- a test came: an acknowledge of it waits, no test of ours, and T_CTa runs anew; the acknowledge of our test came
unfoldable pub care_tested : Care → Care
care_tested c = record { answers = true; tests = false; unanswered = c.unanswered; left = t_test }

unfoldable pub care_answered : Care → Care
care_answered c = record { answers = c.answers; tests = c.tests; unanswered = 0; left = c.left }
