-- DEMAND 3, WHOLE SHIFTS IN BYTES (02, P14): on whatever bytes are lent as the memory, and from power-on, with any set of rates out of the three.
-- Assumes nothing.
use Rattle.std.specs.Prelude.{if◌then◌else◌}
use Prim.Native.Nat.{ℕ}
use mathlib.Core.Path.{◌≡◌, refl, sym, ap, ◌∙◌, subst}
use mathlib.Core.Bool.{Bool, true, false}
use mathlib.Core.Option.{Option, none, some}
use mathlib.Core.List.{List, [], ◌∷◌}
use borrow.Author.Tests.{eq-eqb}
use lib.Dec.{T, eqb}
use Rattle.codec.proofs.Tests.{true_T}
use Rattle.machine.specs.Channel.{Answer, says}
use Rattle.machine.specs.Step.{Event, lent_by}
use Rattle.layout.specs.Promise.{Result, answer_of}
use Rattle.layout.specs.Reach.{AllBytes}
use Rattle.layout.proofs.Calls.{Known}
use Rattle.memory.specs.Memory.{load, valid}
use Rattle.memory.specs.Promise.{outcome}
use Rattle.memory.specs.Runs.{results, switched_on}
use Rattle.memory.proofs.Memory.{ok_load}
use Rattle.memory.proofs.Reach.{ok_sane}
use Rattle.memory.proofs.Rows.{not_valid}
use Rattle.memory.proofs.Demands.{as_machine, reordered}
use Rattle.shifts.specs.Shifts.{Numbered, numbered_from, numbered, events, keep, with_number, Stretch, Arrangement, Rearranged, served, whole_shift, to_number, answer_to}
use Rattle.shifts.proofs.Answers.{same_to_each, number_yes, number_no, same_end}
use Rattle.shifts.proofs.Served.{served_arranged, numbers_once, rearranged_arranged, whole_served}
use Rattle.shifts.proofs.Shifts.{events_numbered}
use Rattle.shift_bytes.specs.Bytes.{result_to, SameBytes}

-- ---- what an arrangement lends is bytes

kept_bytes : (p : Numbered → Bool) (cs : List Numbered) → AllBytes (events cs) → AllBytes (events (keep p cs))
unfolding events keep
kept_bytes p [] b = tt
kept_bytes p (c ∷ cs) b = by (p c) (kept_bytes p cs b.1)
  where
    by : (t : Bool) → AllBytes (events (keep p cs)) → AllBytes (events (if t then c ∷ keep p cs else keep p cs))
    by true r = (b.0, r)
    by false r = r

-- where each number stands for bytes, all do
each_bytes : (cs : List Numbered) → ((n : ℕ) → AllBytes (events (with_number n cs))) → AllBytes (events cs)
unfolding events
each_bytes [] h = tt
each_bytes (c ∷ cs) h =
    ((subst (λ (l : List Numbered). AllBytes (events l)) (number_yes c.0 c cs (eq-eqb c.0 c.0 refl)) (h c.0)).0, each_bytes cs (λ n. by n (eqb c.0 n) refl))
  where
    by : (n : ℕ) (t : Bool) → eqb c.0 n ≡ t → AllBytes (events (with_number n cs))
    by n true q = (subst (λ (l : List Numbered). AllBytes (events l)) (number_yes n c cs q) (h n)).1
    by n false q = subst (λ (l : List Numbered). AllBytes (events l)) (number_no n c cs q) (h n)

arranged_bytes : (cs zs : List Numbered) → Arrangement cs zs → AllBytes (events cs) → AllBytes (events zs)
unfolding with_number
arranged_bytes cs zs a b =
    each_bytes zs (λ n. subst (λ (l : List Numbered). AllBytes (events l)) (sym (a.each n)) (kept_bytes (λ c. eqb c.0 n) cs b))

-- ---- bytes that are no device memory: 0x1A, the lent buffer as it was

abbrev refused_to : List Numbered → Option Answer
refused_to [] = none
refused_to (c ∷ cs) = some (says 0x1A 0 (lent_by c.1))

refused_result : (rates m : List ℕ) → valid m ≡ false → (cs : List Numbered) (n : ℕ) → result_to rates m cs n ≡ refused_to (with_number n cs)
unfolding result_to to_number events results with_number keep says
refused_result rates m bad [] n = refl
refused_result rates m bad (c ∷ cs) n = by (eqb c.0 n) (refused_result rates m bad cs n)
  where
    by : (t : Bool) → result_to rates m cs n ≡ refused_to (with_number n cs)
        → (if t then some (answer_of (outcome rates m c.1)) else to_number n cs (results rates (outcome rates m c.1).memory (events cs))) ≡ refused_to (if t then c ∷ with_number n cs else with_number n cs)
    by true r = ap (λ (x : Result). some (answer_of x)) (sym (not_valid rates m c.1 bad))
    by false r = ap (λ (x : Result). to_number n cs (results rates x.memory (events cs))) (sym (not_valid rates m c.1 bad)) ∙ r

-- ---- two arrangements on one memory

module _ (rates : List ℕ) (known : Known rates) (m : List ℕ) where
  machine_result : T (valid m) → (cs : List Numbered) → AllBytes (events cs) → (n : ℕ) → result_to rates m cs n ≡ answer_to rates (load m) cs n
  unfolding result_to answer_to
  machine_result v cs b n = ap (to_number n cs) (as_machine rates known m v (events cs) b).answer

  -- AN ARRANGEMENT leaves the same memory, and each call gives the same
  pub same_bytes : (cs zs : List Numbered) → AllBytes (events cs) → Arrangement cs zs → SameBytes rates m zs cs
  same_bytes cs zs b a =
      record { memory = (reordered rates known m (events zs) (events cs) b' b (same_to_each cs zs a)).memory; result = λ n. by (valid m) refl n }
    where
      b' : AllBytes (events zs)
      b' = arranged_bytes cs zs a b

      by : (t : Bool) → valid m ≡ t → (n : ℕ) → result_to rates m zs n ≡ result_to rates m cs n
      by true q n =
          let v = true_T (valid m) q in
          machine_result v zs b' n ∙ (same_end rates (load m) (ok_sane (load m) (ok_load m v)).eight cs zs a).answer n ∙ sym (machine_result v cs b n)
      by false q n = refused_result rates m q zs n ∙ ap refused_to (a.each n) ∙ sym (refused_result rates m q cs n)

  both : (es : List Event) (zs ws : List Numbered) → AllBytes es → Arrangement (numbered es) zs → Arrangement (numbered es) ws → SameBytes rates m zs ws
  unfolding numbered
  both es zs ws b a a' =
      let b' : AllBytes (events (numbered_from 0 es)) = subst AllBytes (sym (events_numbered es 0)) b in
      let x = same_bytes (numbered es) zs b' a in
      let y = same_bytes (numbered es) ws b' a' in
      record { memory = x.memory ∙ sym y.memory; result = λ n. x.result n ∙ sym (y.result n) }

  -- A STRETCH: every arrangement that keeps each channel's own order leaves the memory that serving channel 1 wholly, then 2, and so on, calls naming
  -- none last, leaves, and each call gives the same
  pub stretch_served_bytes : (es : List Event) (zs : List Numbered) → AllBytes es → Stretch (numbered es) → Arrangement (numbered es) zs
      → SameBytes rates m zs (served (numbered es))
  unfolding numbered
  stretch_served_bytes es zs b s a = both es zs (served (numbered es)) b a (served_arranged (numbered es) s (numbers_once es 0))

  -- A SEQUENCE: every one whose stretches are arranged so leaves the memory that it leaves with each stretch served so, and each call gives the same
  pub whole_shift_bytes : (es : List Event) (zs : List Numbered) → AllBytes es → Rearranged (numbered es) zs → SameBytes rates m zs (whole_shift es)
  whole_shift_bytes es zs b r = both es zs (whole_shift es) b (rearranged_arranged r) (rearranged_arranged (whole_served es))

  -- and any two of them alike
  pub shifts_alike_bytes : (es : List Event) (zs ws : List Numbered) → AllBytes es → Rearranged (numbered es) zs → Rearranged (numbered es) ws → SameBytes rates m zs ws
  shifts_alike_bytes es zs ws b r r' = both es zs ws b (rearranged_arranged r) (rearranged_arranged r')

-- from power-on on
pub whole_shift_bytes_from_power_on : (rates : List ℕ) → Known rates → (bytes : List ℕ) (es : List Event) (zs : List Numbered) → AllBytes es → Rearranged (numbered es) zs
    → SameBytes rates (switched_on bytes) zs (whole_shift es)
whole_shift_bytes_from_power_on rates known bytes = whole_shift_bytes rates known (switched_on bytes)
