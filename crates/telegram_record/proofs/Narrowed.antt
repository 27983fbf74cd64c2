-- Laws on narrowing: fields that fit are whole afterwards, and what doesn't fit is refused. Assumes nothing.
use Prim.Native.Nat.{ℕ, ◌≤◌, ◌<◌, ◌^◌}
use mathlib.Core.Path.{◌≡◌, sym}
use mathlib.Core.Bool.{true}
use mathlib.Core.Option.{none, some}
use mathlib.Core.List.{List}
use native.Mathlib.Omega.{arith}
use lib.Dec.{eqb, leb}
use borrow.Author.Tests.{leb-true, le-leb, eqb-true}
use Rattle.std.specs.Prelude.{Result, Ok, Err, OkIff}
use Rattle.std.specs.Result.{result_ok}
use Rattle.std.proofs.lemmas.Grind.{common_steps}
use Rattle.std.specs.Prelude as rust
use Rattle.codec.specs.Word.{word_at}
use Rattle.telegram.specs.Telegram.{AnyTelegram, is_application, any_fits}
use Rattle.telegram.proofs.Tests.{either, tested, stopped}
use Rattle.telegram_types.specs.declared.Telegram.{Telegram}
use Rattle.telegram_types.specs.Face.{taken_said}
use Rattle.telegram_record.specs.Record.{kept, byte_in}

pub looser : (n j k : ℕ) → j ≤ k → leb n j ≡ true → leb n k ≡ true
looser n j k h e = let l = leb-true n j e in le-leb n k (omega arith)

is_small : (n k : ℕ) → k ≤ 0xFF → eqb n k ≡ true → leb n 0xFF ≡ true
is_small n k h e = let l = eqb-true n k e in le-leb n 0xFF (omega arith)

pub application_small : (a : ℕ) → is_application a ≡ true → leb a 0xFF ≡ true
application_small a =
    either {a = eqb a 0x01} (is_small a 0x01 (omega arith))
    (either {a = eqb a 0x10} (is_small a 0x10 (omega arith))
    (either {a = eqb a 0x20} (is_small a 0x20 (omega arith)) (is_small a 0x21 (omega arith))))

-- a number that was narrowed to so many bits is whole, and one that wasn't has more
pub whole : {E : Type 0} (k n x : ℕ) (r : Result ℕ E) (o : rust.Option ℕ) → OkIff r (n < 2 ^ k) n → o ≡ result_ok r → o ≡ rust.Some x → x ≡ n
whole k n x (Ok y) o h e is = grind (arith, common_steps)
whole k n x (Err y) o h e is = grind (arith, common_steps)

pub wide : {E : Type 0} (k n : ℕ) (r : Result ℕ E) (o : rust.Option ℕ) → OkIff r (n < 2 ^ k) n → o ≡ result_ok r → o ≡ rust.None → n < 2 ^ k → ⊥
wide k n (Ok y) o h e is = grind (arith, common_steps)
wide k n (Err y) o h e is = h

-- a byte is the number that stands there, and no byte is a larger one
pub whole_byte : (at x : ℕ) (r : List ℕ) (o : rust.Option ℕ) → o ≡ byte_in at r → o ≡ rust.Some x → x ≡ word_at at r
whole_byte at x r o e is = grind (arith, common_steps)

pub no_byte : (at : ℕ) (r : List ℕ) (o : rust.Option ℕ) → o ≡ byte_in at r → o ≡ rust.None → leb (word_at at r) 0xFF ≡ true → ⊥
no_byte at r o e is h = grind (arith, common_steps)

-- what the tables don't allow is refused
pub unfit : (t : AnyTelegram) → (any_fits t ≡ true → ⊥) → none ≡ kept (some t)
unfolding kept
unfit t h = tested (any_fits t) (λ fit. absurd (h fit)) (λ bad. sym (stopped (any_fits t) t bad))

pub unfit_none : (o : rust.Option Telegram) (l : List ℕ) (t : AnyTelegram) → o ≡ rust.None → (any_fits t ≡ true → ⊥) → kept (taken_said o l) ≡ kept (some t)
unfolding kept taken_said
unfit_none o l t e h = rw e (unfit t h)
