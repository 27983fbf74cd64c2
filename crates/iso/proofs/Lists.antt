-- Lists of parameters on an open ISO 15765 channel, for any set of rates: a list of at most 16 is its single calls in a row, up to the first refused
-- one; a longer one is 0x04. Assumes nothing.
use mathlib.Core.Path.{◌≡◌, refl, sym, ap, ◌∙◌}
use Prim.Native.Nat.{ℕ, ◌≤◌, ◌<◌}
use native.Mathlib.Omega.{arith}
use mathlib.Core.List.{List, [], ◌∷◌}
use lib.ListN.{length}
use Rattle.machine.specs.Limits.{most_pairs}
use Rattle.machine.specs.Channel.{Config, Pairs, flat, Call, get_parameter, set_parameter, get_list, set_list, says, get_in, set_in, set_all, get_all}
use Rattle.machine.proofs.Parameters.{few_code, many_code, set_more, set_no_more, get_more, get_no_more}
use Rattle.iso.specs.Iso.{OpenIso, ready, IsoOutcome, set_config, unless_iso, on_iso_get, iso_set_to, on_iso_set, on_iso_get_list, on_iso_set_list, on_ready, on_iso_call, iso_notes, iso_noted}

-- the list has at most 16 pairs, or more
module _ (rates : List ℕ) (o : OpenIso) (ps : Pairs) where
  pub iso_set_few : length ps ≤ most_pairs → on_iso_set_list rates o ps ≡ iso_set_to o (set_all rates o.config ps)
  unfolding on_iso_set_list unless_iso
  iso_set_few h = rw (few_code ps h) refl

  pub iso_get_few : length ps ≤ most_pairs → on_iso_get_list o ps ≡ (ready o, says (get_all o.config ps).0 0 (flat (get_all o.config ps).1))
  unfolding on_iso_get_list unless_iso
  iso_get_few h = rw (few_code ps h) refl

  pub iso_set_many : most_pairs < length ps → on_iso_set_list rates o ps ≡ (ready o, says 0x04 0 [])
  unfolding on_iso_set_list unless_iso
  iso_set_many h = rw (many_code ps h) refl

  pub iso_get_many : most_pairs < length ps → on_iso_get_list o ps ≡ (ready o, says 0x04 0 (flat ps))
  unfolding on_iso_get_list unless_iso
  iso_get_many h = rw (many_code ps h) refl

-- one pair at a time
module _ (rates : List ℕ) (now : ℕ) (o : OpenIso) where
  abbrev pub on_iso : Call → IsoOutcome
  on_iso x = iso_noted (on_iso_call rates now (ready o) x)

  -- a set that is accepted leaves the channel open, and behind it the rest of the list is set
  pub record IsoSetOn (p : ℕ × ℕ) : Type 0 where
    pub next : OpenIso
    pub leaves : (on_iso (set_parameter p.0 p.1)).0 ≡ ready next
    pub goes : (ps : Pairs) → length (p ∷ ps) ≤ most_pairs → on_iso (set_list (p ∷ ps)) ≡ iso_noted (on_iso_call rates now (ready next) (set_list ps))

  pub iso_set_accepted : (p : ℕ × ℕ) → (on_iso (set_parameter p.0 p.1)).1.code ≡ 0 → IsoSetOn p
  unfolding on_iso_call on_ready on_iso_set iso_set_to set_config says iso_noted iso_notes
  iso_set_accepted p e =
      let r : ℕ × Config = set_in rates o.config p.0 p.1 in
      let o' : OpenIso = set_config o r.1 in
      record {
        next = o';
        leaves = ap (λ (k : ℕ). iso_notes k (ready o')) e;
        goes = λ ps h.
            ap iso_noted
            (iso_set_few rates o (p ∷ ps) h ∙ ap (iso_set_to o) (set_more rates o.config p ps e) ∙ sym (iso_set_few rates o' ps (omega arith)));
      }

  -- a refused one ends it
  pub iso_set_refused : (p : ℕ × ℕ) (ps : Pairs) → length (p ∷ ps) ≤ most_pairs → ((on_iso (set_parameter p.0 p.1)).1.code ≡ 0 → ⊥)
      → on_iso (set_list (p ∷ ps)) ≡ on_iso (set_parameter p.0 p.1)
  unfolding on_iso_call on_ready on_iso_set iso_set_to says iso_noted
  iso_set_refused p ps h n = ap iso_noted (iso_set_few rates o (p ∷ ps) h ∙ ap (iso_set_to o) (set_no_more rates o.config p ps n))

  pub iso_set_nothing : on_iso (set_list []) ≡ (ready o, says 0x00 0 [])
  unfolding on_iso_call on_ready iso_set_to set_config set_all iso_noted iso_notes says
  iso_set_nothing = ap iso_noted (iso_set_few rates o [] (omega arith))

  -- a get that is accepted leaves the channel, and its value goes into the pair
  pub iso_get_leaves : (p : ℕ × ℕ) → (on_iso (get_parameter p.0)).1.code ≡ 0 → (on_iso (get_parameter p.0)).0 ≡ ready o
  unfolding on_iso_call on_ready on_iso_get iso_noted iso_notes says
  iso_get_leaves p e = ap (λ (k : ℕ). iso_notes k (ready o)) e

  pub iso_get_goes : (p : ℕ × ℕ) (ps : Pairs) → length (p ∷ ps) ≤ most_pairs → (on_iso (get_parameter p.0)).1.code ≡ 0
      → on_iso (get_list (p ∷ ps)) ≡ ((on_iso (get_list ps)).0, says (on_iso (get_list ps)).1.code 0 (p.0 ∷ (on_iso (get_parameter p.0)).1.value ∷ (on_iso (get_list ps)).1.buffer))
  unfolding on_iso_call on_ready on_iso_get says flat iso_noted
  iso_get_goes p ps h e =
      ap iso_noted
      (iso_get_few rates o (p ∷ ps) h
      ∙ ap (λ (r : ℕ × Pairs). (ready o, says r.0 0 (flat r.1))) (get_more o.config p ps e)
      ∙ sym (ap (λ (x : IsoOutcome). (x.0, says x.1.code 0 (p.0 ∷ (get_in o.config p.0).1 ∷ x.1.buffer))) (iso_get_few rates o ps (omega arith))))

  -- a refused one ends the list, which stays
  pub iso_get_refused : (p : ℕ × ℕ) (ps : Pairs) → length (p ∷ ps) ≤ most_pairs → ((on_iso (get_parameter p.0)).1.code ≡ 0 → ⊥)
      → on_iso (get_list (p ∷ ps)) ≡ ((on_iso (get_parameter p.0)).0, says (on_iso (get_parameter p.0)).1.code 0 (flat (p ∷ ps)))
  unfolding on_iso_call on_ready on_iso_get says iso_noted
  iso_get_refused p ps h n =
      ap iso_noted (iso_get_few rates o (p ∷ ps) h ∙ ap (λ (r : ℕ × Pairs). (ready o, says r.0 0 (flat r.1))) (get_no_more o.config p ps n))

  pub iso_get_nothing : on_iso (get_list []) ≡ (ready o, says 0x00 0 [])
  unfolding on_iso_call on_ready get_all flat iso_noted iso_notes says
  iso_get_nothing = ap iso_noted (iso_get_few rates o [] (omega arith))
