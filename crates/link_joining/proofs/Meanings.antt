-- What a connection set-up or acknowledge means while connecting. Assumes nothing.
use mathlib.Core.Path.{◌≡◌, ap}
use Prim.Native.Nat.{ℕ}
use mathlib.Core.Bool.{Bool, true, false}
use mathlib.Core.Option.{some}
use Rattle.telegram.specs.Telegram.{connection}
use Rattle.link.specs.Connection.{Asked, Trial, connecting, standing, anew, joined}

module _ (a : Asked) (tx n : ℕ) (s : Trial) (bs t1 t2 t3 t4 : ℕ) (ack : Bool) where
  pub acknowledges : ack ≡ true → joined a tx n s (some (connection ack bs t1 t2 t3 t4)) ≡ standing a tx (anew a bs t3)
  unfolding joined
  acknowledges e = ap (λ (b : Bool). joined a tx n s (some (connection b bs t1 t2 t3 t4))) e

  pub sets_up : ack ≡ false → joined a tx n s (some (connection ack bs t1 t2 t3 t4)) ≡ connecting a tx n s
  unfolding joined
  sets_up e = ap (λ (b : Bool). joined a tx n s (some (connection b bs t1 t2 t3 t4))) e
