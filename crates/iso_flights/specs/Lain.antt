-- The bytes of an open channel whose parts each can be held, however they hang together; and the channel whose frame in flight belongs to nothing where
-- its transfer is over. Assumes nothing.
use Rattle.std.specs.Prelude.{ℕ, ◌≡◌, List, T}
use Rattle.codec.specs.Code.{both_on}
use Rattle.layout.specs.Memory.{config}
use Rattle.iso.specs.Iso.{OpenIso, ready, set_flight, flight_in}
use Rattle.iso_layout.specs.Region.{ready_parts, iso_rest, iso_region}

pub record Lain (r : List ℕ) : Type 0 where
  pub channel : OpenIso
  pub ok : T ((both_on (λ c. c.flags) config iso_rest).ok (ready_parts channel))
  pub bytes : iso_region.put (ready channel) ≡ r

unfoldable pub disowned : OpenIso → OpenIso
disowned o = set_flight o (flight_in o.talks o.flight)
