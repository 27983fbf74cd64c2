-- What a check's answer tells where only its value is asked for. Assumes nothing.
use Rattle.std.specs.Prelude.{Result, Ok, Err, Option, Some, None}
use Rattle.std.specs.Result.{result_ok}
use mathlib.Core.Path.{◌≡◌, refl}
use Prim.Native.Nat.{ℕ}
use native.Mathlib.Omega.{arith}
use Rattle.codes.specs.declared.Refusal.{Refusal}
use Rattle.codes.specs.Code.{code_of}
use Rattle.codes.proofs.Laws.{not_done}

pub refused : {T : Type 0} (told : Result T Refusal) → None ≡ result_ok told → code_of told ≡ 0 → ⊥
refused (Err r) e = not_done r
refused (Ok v) e = let no : ◌≡◌ {A = ℕ} 0 1 = cc in absurd (omega arith)

pub done : {T : Type 0} (told : Result T Refusal) (v : T) → Some v ≡ result_ok told → code_of told ≡ 0
done (Ok u) v e = refl
done (Err r) v e = let no : ◌≡◌ {A = ℕ} 0 1 = cc in absurd (omega arith)
