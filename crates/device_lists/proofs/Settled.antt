-- ANY TWO OUTCOMES OF A LIST ARE EQUAL; that the postconditions of the two functions that take one are `SetPost` and `GetPost` is said beside. Assumes
-- nothing.
use mathlib.Core.Path.{◌≡◌, refl, sym, ap, ap₂, ◌∙◌}
use Prim.Native.Nat.{ℕ}
use Rattle.std.specs.Prelude as told
use Rattle.std.specs.Prelude.{⊤}
use Rattle.codes.specs.Code.{code_of}
use Rattle.codes.specs.declared.Refusal.{Refusal}
use Rattle.codes.proofs.Numbers.{answer_of, done_of_code}
use mathlib.Core.List.{List, [], ◌∷◌}
use seplogic.Ra.Ura.{Ura}
use base.Logic.{SProp}
use prog.Memory.{Memory}
use prog.Routine.{Routine}
use types.Logic.{Logic}
use contract.Lifetimes.{Lfts}
use contract.Monad.{Fun, fact}
use denote.Triple.Clauses.{AtExit}
use denote.Triple.Entry.{Args}
use Rattle.codec.specs.Settled.{Settled}
use Rattle.machine.specs.Channel.{flat}
use Rattle.layout.specs.Promise.{Result}
use Rattle.device_lists.specs.declared.Pair.{Pair}
use Rattle.device_lists.specs.Lists.{listed, SetPost, GetPost}
use Rattle.device_lists.specs.contracts.set_list as set
use Rattle.device_lists.specs.contracts.get_list as get

-- the pairs of numbers that lie one behind the other
pub pairs_of : List ℕ → List Pair
pairs_of [] = []
pairs_of (p ∷ []) = []
pairs_of (p ∷ v ∷ l) = record { parameter = p; value = v } ∷ pairs_of l

pub back : (ps : List Pair) → pairs_of (flat (listed ps)) ≡ ps
unfolding flat pairs_of
back [] = refl
back (p ∷ ps) = ap (λ (l : List Pair). p ∷ l) (back ps)

pub set_list_settled : (m : List ℕ) (k : ℕ) (ps : List Pair) → Settled (SetPost m k ps)
set_list_settled m k ps x y p q =
    ap (λ (r : told.Result ⊤ Refusal). (r, x.1)) (sym (done_of_code x.0)) ∙ ap (λ (s : Result). (answer_of s.code tt, s.memory)) (p ∙ sym q)
    ∙ ap (λ (r : told.Result ⊤ Refusal). (r, y.1)) (done_of_code y.0)

pub get_list_settled : (m : List ℕ) (k : ℕ) (ps : List Pair) → Settled (GetPost m k ps)
get_list_settled m k ps x y p q =
    ap₂ (λ (r : told.Result ⊤ Refusal) (l : List Pair). (r, (x.1.0, l))) (sym (done_of_code x.0)) (sym (back x.1.1))
    ∙ ap (λ (s : Result). (answer_of s.code tt, (s.memory, pairs_of s.buffer))) (p ∙ sym q)
    ∙ ap₂ (λ (r : told.Result ⊤ Refusal) (l : List Pair). (r, (y.1.0, l))) (done_of_code y.0) (back y.1.1)

-- the postconditions, of any arguments, result and values at exit
module _ {M : Type 1} {𝓤 : Ura M} (𝓛 : Logic 𝓤) (at_mem : Memory → SProp 𝓤) (run : Routine → Fun 𝓤) (κs : Lfts 2) where
  pub set_list_says : (a : Args set.signature κs) (c : told.Result ⊤ Refusal) (e : AtExit set.ended κs)
      → (set.clauses 𝓛 at_mem run κs a).ensures tt c e ≡ fact 𝓤 (SetPost a.0.now a.1.0 a.1.1.0.now (c, e.0.now))
  set_list_says a c e = refl

  pub get_list_says : (a : Args get.signature κs) (c : told.Result ⊤ Refusal) (e : AtExit get.ended κs)
      → (get.clauses 𝓛 at_mem run κs a).ensures tt c e ≡ fact 𝓤 (GetPost a.0.now a.1.0 a.1.1.0.now (c, (e.0.now, e.1.1.0.now)))
  get_list_says a c e = refl
