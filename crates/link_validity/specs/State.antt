-- What is valid behind the state of a connection: the parts that are there, and what they say of each other. Assumes nothing.
use Rattle.std.specs.Prelude.{ℕ, Bool, ◌&&◌, List, drop}
use Rattle.link_layout.specs.Connection.{connection_back, after, connection_fits}

unfoldable pub in_state : ℕ → List ℕ → Bool
in_state k m = (after k).valid (drop 1 m) && connection_fits (connection_back (k, (after k).get (drop 1 m)))
