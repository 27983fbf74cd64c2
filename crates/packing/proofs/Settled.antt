-- ANY TWO OUTCOMES ARE EQUAL: what the entries return and leave, as values of their own types. Assumes nothing.
use Prim.Native.Nat.{ℕ}
use mathlib.Core.Path.{◌≡◌, ap}
use mathlib.Core.Bool.{Bool}
use mathlib.Core.List.{List}
use Rattle.codec.specs.Settled.{Settled}
use Rattle.codec.proofs.Settled.{settled}
use Rattle.std.specs.Prelude.{Result}
use Rattle.codes.specs.declared.Refusal.{Refusal}
use Rattle.codes.specs.Code.{code_of, value_of}
use Rattle.codes.proofs.Numbers.{answer_of, answer_of_codes, done_of_code}
use Rattle.telegram.specs.Telegram.{read_any}
use Rattle.telegram_types.specs.Face.{Wrote}
use Rattle.telegram_record.specs.Crossing.{gave, reading, writing}

-- `read`: the answer, and the buffer of the record at exit
pub read_settled : (opening : Bool) (identifier : ℕ) (bytes telegram : List ℕ)
    → Settled (λ (r : Result (Unit {0}) Refusal × List ℕ). gave (code_of r.0) 0 r.1 ≡ reading (read_any opening identifier bytes) telegram)
read_settled opening identifier bytes telegram =
    settled (λ (r : Result (Unit {0}) Refusal × List ℕ). gave (code_of r.0) 0 r.1) (λ (w : Wrote). (answer_of w.code tt, w.buffer)) (λ r. ap (λ x. (x, r.1)) (done_of_code r.0)) _

-- `write`: the answer, and the buffer of the bytes at exit
pub write_settled : (telegram buffer : List ℕ) → Settled (λ (r : Result ℕ Refusal × List ℕ). gave (code_of r.0) (value_of r.0) r.1 ≡ writing telegram buffer)
write_settled telegram buffer =
    settled (λ (r : Result ℕ Refusal × List ℕ). gave (code_of r.0) (value_of r.0) r.1) (λ (w : Wrote). (answer_of w.code w.len, w.buffer)) (λ r. ap (λ x. (x, r.1)) (answer_of_codes r.0)) _
