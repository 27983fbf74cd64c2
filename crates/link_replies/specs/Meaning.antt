-- What a reply is taken for while a connection opens, and the connection after it. Assumes nothing.
use Rattle.std.specs.Prelude.{◌≡◌, ℕ, ◌%◌}
use Rattle.link.specs.Connection.{Asked, Trial, waits, Connection, absent, opening, connecting}
use Rattle.link_replies.specs.declared.Means.{Means}
use Rattle.link_replies.specs.declared.Means.TheVariants.{Nothing, Positive, Negative}

-- the lower byte of the identifier, the RX-ID and the application that were asked for
pub record Asks (a : Asked) (own rx_id application : ℕ) : Type 0 where
  pub own_is : own ≡ a.own % 256
  pub rx_id_is : rx_id ≡ a.rx_id
  pub application_is : application ≡ a.application

-- the connection that opened, after a reply of this meaning
unfoldable pub after_reply : Means → Asked → ℕ → Trial → Connection
after_reply Nothing a n s = opening a n s
after_reply (Positive tx) a n s = connecting a tx 0 waits
after_reply Negative a n s = absent
