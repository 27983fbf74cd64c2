-- What an open asks for, of its numbers in the order of the call. Assumes nothing.
use Rattle.std.specs.Prelude.{ℕ}
use Rattle.link.specs.Connection.{Asked}
use Rattle.link_asking.specs.declared.Asking.{Asking}

unfoldable pub asked_of : (own destination rx_id application block_size t1 t3 : ℕ) → Asked
asked_of own destination rx_id application block_size t1 t3 =
    record { own = own; destination = destination; rx_id = rx_id; application = application; block_size = block_size; t1 = t1; t3 = t3 }

abbrev pub asks : Asking → Asked
asks a = asked_of a.own a.destination a.rx a.application a.size a.t1 a.t3
