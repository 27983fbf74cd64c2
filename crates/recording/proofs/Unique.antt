-- ANY TWO OUTCOMES OF A PIECE ARE EQUAL: its answer, a place and a length or a refusal, and the memory and the output as it leaves them. Assumes
-- nothing.
use Prim.Native.Nat.{ℕ}
use mathlib.Core.List.{List}
use mathlib.Core.Path.{◌≡◌, refl, sym, ap, ◌∙◌}
use lib.Dec.{eqb}
use borrow.Author.Tests.{ne_eqb}
use Rattle.std.specs.Prelude.{Result, Ok, Err, if◌then◌else◌}
use Rattle.codec.specs.Settled.{Settled}
use Rattle.codes.specs.Code.{number_of}
use Rattle.codes.specs.declared.Refusal.{Refusal}
use Rattle.codes.proofs.Laws.{not_done}
use Rattle.codes.proofs.Numbers.{refusal_of, refusal_of_number}
use Rattle.recording.specs.declared.Played.{Played}
use Rattle.recording.specs.Replay.{Left, leaves, told, pieced}

-- the answer of what is left
given : Left → Result Played Refusal
given r = if eqb r.code 0x00 then Ok (record { at = r.at; length = r.size }) else Err (refusal_of r.code)

abbrev outcome : Left → Result Played Refusal × List ℕ × List ℕ
outcome r = (given r, r.memory, r.buffer)

told_given : (at : ℕ) (r : Result Played Refusal) (m b : List ℕ) → given (told at r m b) ≡ r
unfolding given
told_given at (Ok played) m b = refl
told_given at (Err refusal) m b = rw (ne_eqb (number_of refusal) 0 (not_done refusal), refusal_of_number refusal)

pub play_on_settled : (m recording : List ℕ) (at : ℕ) (out : List ℕ)
    → Settled (λ (x : Result Played Refusal × List ℕ × List ℕ). told at x.0 x.1 x.2 ≡ pieced m recording at out)
play_on_settled m recording at out x y p q = sym (back x) ∙ ap outcome (p ∙ sym q) ∙ back y
  where
    back : (z : Result Played Refusal × List ℕ × List ℕ) → outcome (told at z.0 z.1 z.2) ≡ z
    back (r, n, b) = by r
      where
        by : (r : Result Played Refusal) → outcome (told at r n b) ≡ (r, n, b)
        by (Ok played) = ap (λ (a : Result Played Refusal). (a, n, b)) (told_given at (Ok played) n b)
        by (Err refusal) = ap (λ (a : Result Played Refusal). (a, n, b)) (told_given at (Err refusal) n b)
