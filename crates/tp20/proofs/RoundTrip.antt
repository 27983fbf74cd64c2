-- The round trips carried to the reader and the writer, over whatever meets their promises.
-- Assumes nothing.
use Prim.Native.Nat.{ℕ, ◌≤◌}
use mathlib.Core.Path.{◌≡◌, sym, ap, ◌∙◌}
use mathlib.Core.Bool.{Bool, true}
use mathlib.Core.Logic.{◌⊎◌, inl, inr}
use mathlib.Core.Option.{some}
use mathlib.Core.List.{List}
use native.Mathlib.Omega.{arith}
use lib.ListN.{length, take}
use lib.Dec.{ltb}
use lib.Seq.{take-append_seam}
use borrow.Author.Tests.{le-ltb}
use Rattle.telegram.specs.Bits.{are_bytes}
use Rattle.telegram.specs.Telegram.{AnyTelegram, any_fits, any_bytes, comes, read_any}
use Rattle.telegram.proofs.Tests.{both, together, tested}
use Rattle.telegram.proofs.RoundTrip.{any_exact}
use Rattle.std.specs.Prelude.{Result, Ok}
use Rattle.codes.specs.declared.Refusal.{Refusal}
use Rattle.codes.specs.Code.{code_of, value_of}
use Rattle.telegram_types.specs.declared.Telegram.{Telegram}
use Rattle.telegram_types.specs.declared.Answer.{Answer}
use Rattle.telegram_types.specs.Face.{told, said, answering, Wrote, wrote, writing, written_if, done, refusal, over}
use Rattle.telegram_answers.proofs.Answers.{answered}

-- what is written of a telegram that fits
put_down : (t : AnyTelegram) (buffer : List ℕ) → 8 ≤ length buffer → any_fits t ≡ true → writing t buffer ≡ done (any_bytes t) buffer
unfolding writing written_if
put_down t buffer room e = rw (le-ltb (length buffer) 8 room, e)

-- a write that is done is one of a telegram that fits
refused_code : (n : ℕ) (buffer : List ℕ) (x : Wrote) → x ≡ refusal n buffer → x.code ≡ n
unfolding refusal
refused_code n buffer x e = ap (λ (y : Wrote). y.code) e

put_if : (t : AnyTelegram) (buffer : List ℕ) (x : Wrote) → x ≡ writing t buffer → x.code ≡ 0x00 → (any_fits t ≡ true) × (x ≡ done (any_bytes t) buffer)
unfolding writing written_if
put_if t buffer x e ok =
    tested (ltb (length buffer) 8)
    (λ short. let z : x.code ≡ 0x04 = refused_code 0x04 buffer x (rw short at e) in absurd (omega arith))
    (λ room. tested (any_fits t)
    (λ fit. (fit, rw (room, fit) at e))
    (λ bad. let z : x.code ≡ 0x0A = refused_code 0x0A buffer x (rw (room, bad) at e) in absurd (omega arith)))

-- Whatever the reader takes and the writer is given, with the payload beside it, is written as the same bytes.
pub read_then_write : (s : Bool) (id : ℕ) (b : List ℕ) (a : Answer) (w : Result ℕ Refusal) (before after : List ℕ)
    → are_bytes b ≡ true → 8 ≤ length before
    → told (Ok a) ≡ answering (read_any s id b)
    → wrote w after ≡ writing (said a.telegram (take a.len a.payload)) before
    → wrote w after ≡ done b before
read_then_write s id b a w before after bytes room reads writes =
    let found : read_any s id b ≡ some (said a.telegram (take a.len a.payload)) = sym (answered a _ reads) in
    let h = (any_exact s id).read_then_written b _ bytes found in
    writes ∙ put_down _ before room (both {a = comes s id (said a.telegram (take a.len a.payload))} h.0).1 ∙ ap (λ l. done l before) h.1

-- Whatever the writer writes, read as the sort and under the identifier that it was given for, is the same telegram.
pub write_then_read : (s : Bool) (id : ℕ) (t : Telegram) (carried : List ℕ) (w : Result ℕ Refusal) (before after : List ℕ) (r : Result Answer Refusal)
    → comes s id (said t carried) ≡ true
    → wrote w after ≡ writing (said t carried) before → code_of w ≡ 0x00
    → told r ≡ answering (read_any s id (take (value_of w) after))
    → told r ≡ answering (some (said t carried))
unfolding wrote done over
write_then_read s id t carried w before after r sort writes ok reads =
    let u = said t carried in
    let down = put_if u before (wrote w after) writes ok in
    let start : take (value_of w) after ≡ any_bytes u =
    ap (λ (x : Wrote). take x.len x.buffer) down.1 ∙ take-append_seam (any_bytes u) _ in
    let again : read_any s id (any_bytes u) ≡ some u = ((any_exact s id).written_then_read u (together sort down.0)).1 in
    reads ∙ ap answering (ap (read_any s id) start ∙ again)

-- A write that is refused gives 0x04 or 0x0A and length 0, and leaves the buffer as it was.
pub refused_write : (t : AnyTelegram) (w : Result ℕ Refusal) (before after : List ℕ) → wrote w after ≡ writing t before → (code_of w ≡ 0x00 → ⊥)
    → ((code_of w ≡ 0x04) ⊎ (code_of w ≡ 0x0A)) × (value_of w ≡ 0) × (after ≡ before)
unfolding wrote writing written_if refusal done
refused_write t w before after e bad =
    tested (ltb (length before) 8)
    (λ short. let h = rw short at e in (inl (ap (λ (y : Wrote). y.code) h), ap (λ (y : Wrote). y.len) h, ap (λ (y : Wrote). y.buffer) h))
    (λ room. tested (any_fits t)
    (λ fit. absurd (bad (ap (λ (y : Wrote). y.code) (rw (room, fit) at e))))
    (λ misfit. let h = rw (room, misfit) at e in (inr (ap (λ (y : Wrote). y.code) h), ap (λ (y : Wrote). y.len) h, ap (λ (y : Wrote). y.buffer) h)))
