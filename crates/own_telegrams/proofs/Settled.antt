-- ANY TWO OUTCOMES ARE EQUAL: what is made, as a value of its own type. Assumes nothing.
use Prim.Native.Nat.{ℕ}
use mathlib.Core.Path.{◌≡◌, refl}
use mathlib.Core.Bool.{Bool}
use mathlib.Core.List.{List, []}
use Rattle.codec.specs.Settled.{Settled}
use Rattle.codec.proofs.Settled.{settled}
use Rattle.telegram.specs.Telegram.{own_connection}
use Rattle.telegram.specs.Telegram as T
use Rattle.telegram_types.specs.declared.OnChannel.{OnChannel}
use Rattle.telegram_types.specs.declared.OnChannel.TheVariants.{Data, Acknowledge, Connection, Test, Break, Disconnect}
use Rattle.telegram_types.specs.Face.{channel_said}

-- the case of the enum that says a telegram
case_of : T.Telegram → OnChannel
case_of (T.data_telegram asks last sn bytes) = Data asks last sn
case_of (T.acknowledge ready sn) = Acknowledge ready sn
case_of (T.connection ack bs t1 t2 t3 t4) = Connection ack bs t1 t2 t3 t4
case_of T.test = Test
case_of T.break_off = Break
case_of T.disconnection = Disconnect

case_of_said : (t : OnChannel) → case_of (channel_said t []) ≡ t
unfolding case_of channel_said
case_of_said (Data asks last sn) = refl
case_of_said (Acknowledge ready sn) = refl
case_of_said (Connection ack bs t1 t2 t3 t4) = refl
case_of_said Test = refl
case_of_said Break = refl
case_of_said Disconnect = refl

-- `connection`: the telegram
pub connection_settled : (ack : Bool) (bs t1 t3 : ℕ) → Settled (λ (r : OnChannel). ((bytes : List ℕ) → channel_said r bytes ≡ own_connection ack bs t1 t3))
connection_settled ack bs t1 t3 x y p q = settled (λ (r : OnChannel). channel_said r []) case_of case_of_said _ x y (p []) (q [])
