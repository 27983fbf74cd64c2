-- What a telegram is taken for while a connection connects, and the connection after it. Assumes nothing.
use Rattle.std.specs.Prelude.{ℕ}
use Rattle.link.specs.Connection.{Asked, Trial, Connection, absent, connecting, standing, anew}
use Rattle.link_joining.specs.declared.Turn.{Turn}
use Rattle.link_joining.specs.declared.Turn.TheVariants.{Nothing, Stands, Over}

-- the connection that connected, after a telegram of this meaning
unfoldable pub after_join : Turn → Asked → ℕ → ℕ → Trial → Connection
after_join Nothing a tx n s = connecting a tx n s
after_join (Stands block_size t3) a tx n s = standing a tx (anew a block_size t3)
after_join Over a tx n s = absent
