-- A number stands for one answer. Assumes nothing.
use Rattle.std.specs.Prelude.{Result, Ok, Err}
use Prim.Native.Nat.{ℕ, zero, suc}
use mathlib.Core.Path.{◌≡◌, refl, sym, ap, ap₂, ◌∙◌}
use Rattle.codes.specs.declared.Refusal.{Refusal}
use Rattle.codes.specs.Code.{number_of as code_number, code_of}
use Rattle.codes.proofs.Numbers.{refusal_of, answer_of, answer_of_codes}
use Rattle.machine.specs.Early.{early_number}
use Rattle.decision.specs.Number.{said, number_of, told}
use Rattle.decision.specs.declared.Decision.{Decision}
use Rattle.decision.specs.declared.Decision.TheVariants.{Dropped, Passes, MustSee}

-- the answer of a number
abbrev back : ℕ → Decision
back zero = Dropped
back (suc zero) = Passes
back (suc (suc n)) = MustSee

back_is : (d : Decision) → back (number_of d) ≡ d
unfolding number_of said early_number
back_is Dropped = refl
back_is Passes = refl
back_is MustSee = refl

pub one_number : (a b : Decision) → number_of a ≡ number_of b → a ≡ b
one_number a b e = sym (back_is a) ∙ ap back e ∙ back_is b

-- an answer as a number's, and back
numbered : Result Decision Refusal → Result ℕ Refusal
numbered (Ok d) = Ok (number_of d)
numbered (Err x) = Err x

decided : Result ℕ Refusal → Result Decision Refusal
decided (Ok n) = Ok (back n)
decided (Err x) = Err x

decided_is : (a : Result Decision Refusal) → decided (numbered a) ≡ a
unfolding numbered decided
decided_is (Ok d) = ap Ok (back_is d)
decided_is (Err x) = refl

numbered_is : (a : Result Decision Refusal) → answer_of (code_of a) (told a) ≡ numbered a
unfolding numbered
numbered_is (Ok d) = answer_of_codes (Ok (number_of d))
numbered_is (Err x) = answer_of_codes (Err x)

-- a code and a number stand for one answer
pub one_answer : (a b : Result Decision Refusal) → code_of a ≡ code_of b → told a ≡ told b → a ≡ b
one_answer a b e n = sym (decided_is a) ∙ ap decided (sym (numbered_is a) ∙ ap₂ answer_of e n ∙ numbered_is b) ∙ decided_is b
