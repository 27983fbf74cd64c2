-- Laws on what is written of the telegram that a record says. Assumes nothing.
use Prim.Native.Nat.{ℕ, ◌+◌, ◌-◌, ◌≤◌, min}
use mathlib.Core.Path.{◌≡◌, sym, ap, ◌∙◌}
use mathlib.Core.Bool.{true}
use mathlib.Core.Option.{none, some}
use mathlib.Core.List.{List}
use native.Mathlib.Omega.{arith}
use lib.ListN.{length, get_or, take, drop}
use lib.Dec.{eqb, leb, ltb}
use borrow.Author.Tests.{leb-true, eqb-true, le-ltb}
use Rattle.telegram.specs.Bits.{only_if}
use Rattle.telegram.specs.Telegram.{AnyTelegram, opening, channel, set_up, positive, negative, data_telegram, acknowledge, connection, test, break_off, disconnection, is_opening_id, is_destination, is_negative, any_fits, opening_fits, fields_fit, fits, any_bytes, opening_bytes, on_wire}
use Rattle.telegram.proofs.Tests.{both, tested}
use Rattle.std.specs.Prelude.{Result}
use Rattle.std.specs.Prelude as rust
use Rattle.codes.specs.declared.Refusal.{Refusal}
use Rattle.codes.specs.Code.{code_of, value_of}
use Rattle.telegram_types.specs.declared.Telegram.{Telegram}
use Rattle.telegram_types.specs.Face.{Wrote, wrote, said, taken_said, written_if, refusal, done}
use Rattle.telegram_types.specs.Face.{writing as tells}
use Rattle.telegram_record.specs.Record.{kept, count_in, carried_in, telegram_in}
use Rattle.telegram_record.specs.Crossing.{unpacked, writing, gave}

-- no telegram is said
pub unsaid : (k : rust.Option Telegram) (r : List ℕ) → kept (taken_said k (carried_in r)) ≡ telegram_in r → k ≡ rust.None → telegram_in r ≡ none
unfolding taken_said kept
unsaid k r e is = sym e ∙ ap (λ x. kept (taken_said x (carried_in r))) is

-- a telegram that is said is written where the tables allow it
written_kept : (t : AnyTelegram) (buffer : List ℕ) → written_if (any_fits t) (any_bytes t) buffer ≡ unpacked (kept (some t)) buffer
unfolding kept unpacked written_if only_if
written_kept t buffer = tested (any_fits t) (λ fit. rw fit) (λ bad. rw bad)

pub said_written : (k : rust.Option Telegram) (t : Telegram) (r part buffer after : List ℕ) (w : Result ℕ Refusal) → part ≡ carried_in r → kept (taken_said k (carried_in r)) ≡ telegram_in r → k ≡ rust.Some t
    → 32 ≤ length r → 8 ≤ length buffer → wrote w after ≡ tells (said t part) buffer
    → gave (code_of w) (value_of w) after ≡ writing r buffer
unfolding taken_said wrote tells writing
said_written k t r part buffer after w p e is long room h =
    let says : kept (some (said t (carried_in r))) ≡ telegram_in r = sym (ap (λ x. kept (taken_said x (carried_in r))) is) ∙ e in
    rw (le-ltb (length r) 32 long, le-ltb (length buffer) 8 room) (rw (p, le-ltb (length buffer) 8 room) at h ∙ written_kept _ buffer ∙ ap (λ x. unpacked x buffer) says)

-- the part that is lent is what is carried
pub carried_part : (r : List ℕ) (n : ℕ) → n ≡ min (get_or r 24 0) 7 → take (25 + n - 25) (drop 25 r) ≡ carried_in r
unfolding carried_in count_in
carried_part r n e = let k : 25 + n - 25 ≡ min (get_or r 24 0) 7 = omega arith in ap (λ (m : ℕ). take m (drop 25 r)) k

-- what is written is short
fits_short : (t : AnyTelegram) → any_fits t ≡ true → length (any_bytes t) ≤ 8
unfolding any_fits any_bytes opening_fits fields_fit opening_bytes fits on_wire
fits_short (opening id (set_up d rx app)) h = omega arith
fits_short (opening id (positive d tx rx app)) h = omega arith
fits_short (opening id (negative d kind rest)) h =
    let p = (both {a = is_negative kind} (both {a = is_destination d} (both {a = is_opening_id id} h).1).1).1 in
    let five = eqb-true (length rest) 5 (both {a = eqb (length rest) 5} p).0 in
    omega arith
fits_short (channel (data_telegram asks last sn bytes)) h =
    let seven = leb-true (length bytes) 7 (both {a = leb (length bytes) 7} (both {a = leb sn 15} h).1).0 in
    omega arith
fits_short (channel (acknowledge ready sn)) h = omega arith
fits_short (channel (connection ack bs t1 t2 t3 t4)) h = omega arith
fits_short (channel test) h = omega arith
fits_short (channel break_off) h = omega arith
fits_short (channel disconnection) h = omega arith

pub short_write : (t : AnyTelegram) (w : Result ℕ Refusal) (before after : List ℕ) → wrote w after ≡ tells t before → value_of w ≤ 8
unfolding wrote tells written_if refusal done
short_write t w before after e =
    tested (ltb (length before) 8)
    (λ short. let z : value_of w ≡ 0 = ap (λ (y : Wrote). y.len) (rw short at e) in omega arith)
    (λ room. tested (any_fits t)
    (λ fit. let z : value_of w ≡ length (any_bytes t) = ap (λ (y : Wrote). y.len) (rw (room, fit) at e) in let h = fits_short t fit in omega arith)
    (λ bad. let z : value_of w ≡ 0 = ap (λ (y : Wrote). y.len) (rw (room, bad) at e) in omega arith))
