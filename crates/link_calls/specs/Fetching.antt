-- What is received once a message was fetched. Assumes nothing.
use Rattle.std.specs.Prelude.{false, []}
use Rattle.link.specs.Connection.{Hear}

unfoldable pub emptied : Hear → Hear
emptied h = record { expected = h.expected; bytes = []; complete = false; acknowledges = h.acknowledges }
