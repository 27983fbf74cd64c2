-- LISTS OF PARAMETERS on an open raw channel, for any set of rates, one pair at a time. Assumes nothing.
use mathlib.Core.Path.{◌≡◌, sym, ap, ◌∙◌}
use Prim.Native.Nat.{ℕ, ◌-◌, ◌≤◌}
use native.Mathlib.Omega.{arith}
use mathlib.Core.List.{List, [], ◌∷◌}
use lib.ListN.{length}
use Rattle.machine.specs.Limits.{most_pairs}
use Rattle.machine.specs.Channel.{Config, Open, opened, with_config, Pairs, flat, Call, get_parameter, set_parameter, get_list, set_list, says, Outcome, get_in, set_in, set_all, get_all, on_get, set_to, on_set, on_open, on_call, notes, noted}
use Rattle.machine.proofs.Parameters.{set_more, set_no_more, get_more, get_no_more, set_few, get_few}

-- ---- a list on an open channel, one pair at a time

module _ (rates : List ℕ) (now : ℕ) (o : Open) where
  abbrev on : Call → Outcome
  on x = noted (on_call rates now (opened o) x)

  -- a set that is accepted leaves the channel open, and behind it the rest of the list is set
  pub record SetOn (p : ℕ × ℕ) : Type 0 where
    pub next : Open
    pub leaves : (on (set_parameter p.0 p.1)).0 ≡ opened next
    pub goes : (ps : Pairs) → length (p ∷ ps) ≤ most_pairs → on (set_list (p ∷ ps)) ≡ noted (on_call rates now (opened next) (set_list ps))

  pub set_accepted : (p : ℕ × ℕ) → (on (set_parameter p.0 p.1)).1.code ≡ 0 → SetOn p
  unfolding on_call on_open on_set set_to with_config says noted notes
  set_accepted p e =
      let r : ℕ × Config = set_in rates o.config p.0 p.1 in
      let o' : Open = record { config = r.1; filters = o.filters; sending = o.sending; receiving = o.receiving; last = o.last; link = o.link } in
      record {
        next = o';
        leaves = ap (λ (k : ℕ). notes k (opened o')) e;
        goes = λ ps h. ap noted (set_few rates o (p ∷ ps) h ∙ ap (set_to o) (set_more rates o.config p ps e) ∙ sym (set_few rates o' ps (omega arith)));
      }

  -- a refused one ends it
  pub set_refused : (p : ℕ × ℕ) (ps : Pairs) → length (p ∷ ps) ≤ most_pairs → ((on (set_parameter p.0 p.1)).1.code ≡ 0 → ⊥)
      → on (set_list (p ∷ ps)) ≡ on (set_parameter p.0 p.1)
  unfolding on_call on_open on_set set_to says noted
  set_refused p ps h n = ap noted (set_few rates o (p ∷ ps) h ∙ ap (set_to o) (set_no_more rates o.config p ps n))

  pub set_nothing : on (set_list []) ≡ (opened o, says 0x00 0 [])
  unfolding on_call on_open set_to with_config set_all noted notes says
  set_nothing = ap noted (set_few rates o [] (omega arith))

  -- a get that is accepted leaves the channel, and its value goes into the pair
  pub get_leaves : (p : ℕ × ℕ) → (on (get_parameter p.0)).1.code ≡ 0 → (on (get_parameter p.0)).0 ≡ opened o
  unfolding on_call on_open on_get noted notes says
  get_leaves p e = ap (λ (k : ℕ). notes k (opened o)) e

  pub get_goes : (p : ℕ × ℕ) (ps : Pairs) → length (p ∷ ps) ≤ most_pairs → (on (get_parameter p.0)).1.code ≡ 0
      → on (get_list (p ∷ ps)) ≡ ((on (get_list ps)).0, says (on (get_list ps)).1.code 0 (p.0 ∷ (on (get_parameter p.0)).1.value ∷ (on (get_list ps)).1.buffer))
  unfolding on_call on_open on_get says flat noted
  get_goes p ps h e =
      ap noted
      (get_few rates o (p ∷ ps) h
      ∙ ap (λ (r : ℕ × Pairs). (opened o, says r.0 0 (flat r.1))) (get_more o.config p ps e)
      ∙ sym (ap (λ (x : Outcome). (x.0, says x.1.code 0 (p.0 ∷ (get_in o.config p.0).1 ∷ x.1.buffer))) (get_few rates o ps (omega arith))))

  -- a refused one ends the list, which stays
  pub get_refused : (p : ℕ × ℕ) (ps : Pairs) → length (p ∷ ps) ≤ most_pairs → ((on (get_parameter p.0)).1.code ≡ 0 → ⊥)
      → on (get_list (p ∷ ps)) ≡ ((on (get_parameter p.0)).0, says (on (get_parameter p.0)).1.code 0 (flat (p ∷ ps)))
  unfolding on_call on_open on_get says noted
  get_refused p ps h n = ap noted (get_few rates o (p ∷ ps) h ∙ ap (λ (r : ℕ × Pairs). (opened o, says r.0 0 (flat r.1))) (get_no_more o.config p ps n))

  pub get_nothing : on (get_list []) ≡ (opened o, says 0x00 0 [])
  unfolding on_call on_open get_all flat noted notes says
  get_nothing = ap noted (get_few rates o [] (omega arith))
