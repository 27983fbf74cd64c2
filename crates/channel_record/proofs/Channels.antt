-- Laws on the telegram on a channel that a record says: the fields of what the tables allow are small. Assumes nothing.
use Prim.Native.Nat.{ℕ}
use mathlib.Core.Path.{◌≡◌, refl}
use mathlib.Core.Bool.{Bool, true, false}
use mathlib.Core.List.{List}
use native.Mathlib.Omega.{arith}
use lib.Dec.{leb}
use Rattle.std.specs.Prelude as rust
use Rattle.std.specs.Bool.{then_some}
use Rattle.telegram.specs.Bits.{only_if, within}
use Rattle.telegram.specs.Telegram.{AnyTelegram, channel, data_telegram, acknowledge, connection, any_fits, fits}
use Rattle.telegram.proofs.Tests.{both}
use Rattle.telegram_types.specs.declared.Telegram.{Telegram}
use Rattle.telegram_types.specs.Face.{said, taken_said}
use Rattle.telegram_record.specs.Record.{kept}
use Rattle.telegram_record.proofs.Narrowed.{looser, unfit_none}

pub data_small : (asks last : Bool) (sn : ℕ) (carried : List ℕ) → any_fits (channel (data_telegram asks last sn carried)) ≡ true → leb sn 0xFF ≡ true
unfolding any_fits fits
data_small asks last sn carried fit = looser sn 15 0xFF (omega arith) (both {a = leb sn 15} fit).0

pub acknowledge_small : (ready : Bool) (sn : ℕ) → any_fits (channel (acknowledge ready sn)) ≡ true → leb sn 0xFF ≡ true
unfolding any_fits fits
acknowledge_small ready sn fit = looser sn 15 0xFF (omega arith) fit

pub connection_small : (ack : Bool) (bs t1 t2 t3 t4 : ℕ) → any_fits (channel (connection ack bs t1 t2 t3 t4)) ≡ true
    → (leb bs 0xFF ≡ true) × (leb t1 0xFF ≡ true) × (leb t2 0xFF ≡ true) × (leb t3 0xFF ≡ true) × (leb t4 0xFF ≡ true)
unfolding any_fits fits
connection_small ack bs t1 t2 t3 t4 fit =
    let p = both {a = within 1 15 bs} fit in
    let q = both {a = leb t1 0xFF} p.1 in
    let r = both {a = leb t2 0xFF} q.1 in
    let s = both {a = leb t3 0xFF} r.1 in
    (looser bs 15 0xFF (omega arith) (both {a = leb 1 bs} p.0).1, q.0, r.0, s.0, s.1)

-- with or without a test before it, what the tables don't allow is refused
pub unfit_if : (o : rust.Option Telegram) (l : List ℕ) (known : Bool) (t : AnyTelegram) → o ≡ rust.None → (any_fits t ≡ true → ⊥) → kept (taken_said o l) ≡ kept (only_if known t)
unfolding kept taken_said only_if
unfit_if o l true t e h = unfit_none o l t e h
unfit_if o l false t e h = rw e

pub said_if : (known : Bool) (t : Telegram) (l : List ℕ) → taken_said (then_some known t) l ≡ only_if known (said t l)
unfolding taken_said only_if
said_if true t l = refl
said_if false t l = refl
