-- LISTS OF PARAMETERS over the whole box, for any set of rates: one pair is the single call, a list is its single calls in a row up to the first refused
-- one, and what a list leaves that a pair ended. Said once for both kinds of channel. Place i is channel number i + 1. Assumes nothing.
use Rattle.std.specs.Prelude.{if◌then◌else◌}
use mathlib.Core.Path.{◌≡◌, refl, sym, ap, ap₂, ◌∙◌, subst}
use Prim.Native.Nat.{ℕ, ◌+◌, ◌-◌, ◌≤◌, ◌<◌}
use native.Mathlib.Omega.{arith}
use mathlib.Core.Bool.{Bool, true, false, true≢false, ◌&&◌}
use mathlib.Core.List.{List, [], ◌∷◌, ◌++◌}
use mathlib.Core.Logic.{◌⊎◌, inl, inr}
use lib.ListN.{length, length-append}
use lib.Seq.{set-set}
use lib.Dec.{eqb, ltb}
use borrow.Author.Tests.{eq-eqb, ne_eqb, ltb-true, ltb-false}
use Rattle.codec.specs.Plain.{within, member}
use Rattle.codec.proofs.Tests.{true_T, within_low, within_high}
use Rattle.machine.specs.Limits.{most_pairs}
use Rattle.machine.specs.Channel.{Open, Chan, closed, opened, Pairs, flat, Call, raw_only, get_parameter, set_parameter, get_list, set_list, Answer, says, lent, Outcome, set_to, on_set, on_open, on_call, notes, noted}
use Rattle.machine.specs.Step.{Event, call, chan_step, clock_after}
use Rattle.machine.proofs.Parameters.{either, set_many, get_many}
use Rattle.machine.proofs.Pairs as raw_lists
use Rattle.iso.specs.Iso.{OpenIso, Iso, shut, ready, IsoOutcome, iso_set_to, on_iso_set, on_ready, on_iso_call, iso_notes, iso_noted}
use Rattle.iso.specs.Step.{iso_step}
use Rattle.iso.proofs.Lists as iso_lists
use Rattle.whole.specs.Device.{channels, Device, Any, raw, iso, any_at, nameable, touches, speaker, any_step, after, step}
use Rattle.whole.specs.Demands.{EightChannels, SetEnded, GetEnded, set_singly, get_singly, pair_codes, with_any}
use Rattle.whole.proofs.Dispatch.{same_device, with_any_same, all_nameable, number_place, call_heard, channels_kept, chan_moves, after_one, call_only, step_spoken, step_no_channel}

-- ---- an open channel of either kind

pub data IsOpen : Any → Type 0 where
  open_raw : (o : Open) → IsOpen (raw (opened o))
  open_iso : (o : OpenIso) → IsOpen (iso (ready o))

module _ (rates : List ℕ) (now k : ℕ) where
  abbrev on : Any → Call → Any × Answer
  on c x = any_step rates now c (call k x)

  abbrev as_raw : Outcome → Any × Answer
  as_raw x = (raw x.0, x.1)

  abbrev as_iso : IsoOutcome → Any × Answer
  as_iso x = (iso x.0, x.1)

  -- a set that is accepted leaves the channel open, and behind it the rest of the list is set
  record SetOn (c : Any) (p : ℕ × ℕ) : Type 0 where
    still : IsOpen (on c (set_parameter p.0 p.1)).0
    goes : (ps : Pairs) → length (p ∷ ps) ≤ most_pairs → on c (set_list (p ∷ ps)) ≡ on (on c (set_parameter p.0 p.1)).0 (set_list ps)

  set_accepted : (c : Any) → IsOpen c → (p : ℕ × ℕ) → (on c (set_parameter p.0 p.1)).1.code ≡ 0 → SetOn c p
  unfolding any_step chan_step iso_step
  set_accepted c (open_raw o) p e =
      let s = raw_lists.set_accepted rates now o p e in
      record {
        still = subst (λ (z : Chan). IsOpen (raw z)) (sym s.leaves) (open_raw s.next);
        goes = λ ps h. ap as_raw (s.goes ps h) ∙ ap (λ (z : Chan). on (raw z) (set_list ps)) (sym s.leaves);
      }
  set_accepted c (open_iso o) p e =
      let s = iso_lists.iso_set_accepted rates now o p e in
      record {
        still = subst (λ (z : Iso). IsOpen (iso z)) (sym s.leaves) (open_iso s.next);
        goes = λ ps h. ap as_iso (s.goes ps h) ∙ ap (λ (z : Iso). on (iso z) (set_list ps)) (sym s.leaves);
      }

  set_refused : (c : Any) → IsOpen c → (p : ℕ × ℕ) (ps : Pairs) → length (p ∷ ps) ≤ most_pairs → ((on c (set_parameter p.0 p.1)).1.code ≡ 0 → ⊥)
      → on c (set_list (p ∷ ps)) ≡ on c (set_parameter p.0 p.1)
  unfolding any_step chan_step iso_step
  set_refused c (open_raw o) p ps h n = ap as_raw (raw_lists.set_refused rates now o p ps h n)
  set_refused c (open_iso o) p ps h n = ap as_iso (iso_lists.iso_set_refused rates now o p ps h n)

  set_nothing : (c : Any) → IsOpen c → on c (set_list []) ≡ (c, says 0x00 0 [])
  unfolding any_step chan_step iso_step
  set_nothing c (open_raw o) = ap as_raw (raw_lists.set_nothing rates now o)
  set_nothing c (open_iso o) = ap as_iso (iso_lists.iso_set_nothing rates now o)

  -- a single set's answer is its code alone
  set_says : (c : Any) → IsOpen c → (p v : ℕ) → (on c (set_parameter p v)).1 ≡ says (on c (set_parameter p v)).1.code 0 []
  unfolding any_step chan_step iso_step on_call on_open on_set set_to noted on_iso_call on_ready on_iso_set iso_set_to iso_noted says
  set_says c (open_raw o) p v = refl
  set_says c (open_iso o) p v = refl

  get_leaves : (c : Any) → IsOpen c → (p : ℕ × ℕ) → (on c (get_parameter p.0)).1.code ≡ 0 → (on c (get_parameter p.0)).0 ≡ c
  unfolding any_step chan_step iso_step
  get_leaves c (open_raw o) p e = ap raw (raw_lists.get_leaves rates now o p e)
  get_leaves c (open_iso o) p e = ap iso (iso_lists.iso_get_leaves rates now o p e)

  get_goes : (c : Any) → IsOpen c → (p : ℕ × ℕ) (ps : Pairs) → length (p ∷ ps) ≤ most_pairs → (on c (get_parameter p.0)).1.code ≡ 0
      → on c (get_list (p ∷ ps)) ≡ ((on c (get_list ps)).0, says (on c (get_list ps)).1.code 0 (p.0 ∷ (on c (get_parameter p.0)).1.value ∷ (on c (get_list ps)).1.buffer))
  unfolding any_step chan_step iso_step
  get_goes c (open_raw o) p ps h e = ap as_raw (raw_lists.get_goes rates now o p ps h e)
  get_goes c (open_iso o) p ps h e = ap as_iso (iso_lists.iso_get_goes rates now o p ps h e)

  get_refused : (c : Any) → IsOpen c → (p : ℕ × ℕ) (ps : Pairs) → length (p ∷ ps) ≤ most_pairs → ((on c (get_parameter p.0)).1.code ≡ 0 → ⊥)
      → on c (get_list (p ∷ ps)) ≡ ((on c (get_parameter p.0)).0, says (on c (get_parameter p.0)).1.code 0 (flat (p ∷ ps)))
  unfolding any_step chan_step iso_step
  get_refused c (open_raw o) p ps h n = ap as_raw (raw_lists.get_refused rates now o p ps h n)
  get_refused c (open_iso o) p ps h n = ap as_iso (iso_lists.iso_get_refused rates now o p ps h n)

  get_nothing : (c : Any) → IsOpen c → on c (get_list []) ≡ (c, says 0x00 0 [])
  unfolding any_step chan_step iso_step
  get_nothing c (open_raw o) = ap as_raw (raw_lists.get_nothing rates now o)
  get_nothing c (open_iso o) = ap as_iso (iso_lists.iso_get_nothing rates now o)

  -- more than 16 pairs
  many_set : (c : Any) → IsOpen c → (ps : Pairs) → most_pairs < length ps → (on c (set_list ps)).1.code ≡ 0x04
  unfolding any_step chan_step iso_step on_call on_open noted on_iso_call on_ready iso_noted says
  many_set c (open_raw o) ps h = ap (λ (x : Outcome). x.1.code) (set_many rates o ps h)
  many_set c (open_iso o) ps h = ap (λ (x : IsoOutcome). x.1.code) (iso_lists.iso_set_many rates o ps h)

  many_get : (c : Any) → IsOpen c → (ps : Pairs) → most_pairs < length ps → (on c (get_list ps)).1.code ≡ 0x04
  unfolding any_step chan_step iso_step on_call on_open noted on_iso_call on_ready iso_noted says
  many_get c (open_raw o) ps h = ap (λ (x : Outcome). x.1.code) (get_many rates o ps h)
  many_get c (open_iso o) ps h = ap (λ (x : IsoOutcome). x.1.code) (iso_lists.iso_get_many rates o ps h)

-- ---- the same of a device's step, where the channel at place i is open

pub record OpenAt (i : ℕ) (d : Device) : Type 0 where
  pub place : i < channels
  pub eight : EightChannels d
  pub is : IsOpen (any_at i d)

-- one channel's step behind another, put in its place behind it
twice : (rates : List ℕ) (now i : ℕ) (d : Device) (c : Any) (e e' : Event)
    → with_any i (any_step rates now (any_step rates now c e).0 e').0 (with_any i (any_step rates now c e).0 d) ≡ with_any i (any_step rates now (any_step rates now c e).0 e').0 d
unfolding with_any any_step
twice rates now i d (raw c) e e' = same_device refl (set-set d.chans i _ _) refl
twice rates now i d (iso c) e e' = same_device refl refl (set-set d.isos (i - 4) _ _)

module _ (rates : List ℕ) (d : Device) (i : ℕ) (a : OpenAt i d) where
  abbrev at : Call → Device × Answer
  at x = step rates d (call (i + 1) x)

  abbrev here : Call → Any × Answer
  here x = any_step rates d.clock (any_at i d) (call (i + 1) x)

  abbrev from : Any × Answer → Device × Answer
  from x = (with_any i x.0 d, x.1)

  pub step_open : (x : Call) → raw_only x ≡ false → at x ≡ from (here x)
  unfolding speaker
  step_open x all = step_spoken rates d (call (i + 1) x) i a.eight (number_place x i a.place (all_nameable x i all))

  code_here : (x : Call) → raw_only x ≡ false → (here x).1.code ≡ (at x).1.code
  code_here x all = ap (λ (s : Device × Answer). s.1.code) (sym (step_open x all))

  pub set_none : at (set_list []) ≡ (d, says 0x00 0 [])
  set_none = step_open (set_list []) refl ∙ ap from (set_nothing rates d.clock (i + 1) (any_at i d) a.is) ∙ ap (λ (x : Device). (x, says 0x00 0 [])) (with_any_same i d)

  pub get_none : at (get_list []) ≡ (d, says 0x00 0 [])
  get_none = step_open (get_list []) refl ∙ ap from (get_nothing rates d.clock (i + 1) (any_at i d) a.is) ∙ ap (λ (x : Device). (x, says 0x00 0 [])) (with_any_same i d)

  module _ (p : ℕ × ℕ) where
    abbrev one : Call
    one = set_parameter p.0 p.1

    -- an accepted set: the channel stays open, and the rest of the list goes on from there
    pub record SetGoes : Type 0 where
      pub stays_open : OpenAt i (at one).0
      pub goes : (ps : Pairs) → length (p ∷ ps) ≤ most_pairs → at (set_list (p ∷ ps)) ≡ step rates (at one).0 (call (i + 1) (set_list ps))

    pub set_step : (at one).1.code ≡ 0 → SetGoes
    unfolding step clock_after touches
    set_step e =
        let s : SetOn rates d.clock (i + 1) (any_at i d) p = set_accepted rates d.clock (i + 1) (any_at i d) a.is p (code_here one refl ∙ e) in
        let d' : Device = after rates d (call (i + 1) one) in
        let there : any_at i d' ≡ (here one).0 = chan_moves rates d (call (i + 1) one) i a.eight a.place (ap (λ (b : Bool). b && nameable one i) (eq-eqb (i + 1) (i + 1) refl) ∙ all_nameable one i refl) in
        let clock : d'.clock ≡ d.clock = unfold after clock_after in refl in
        let open_there : OpenAt i d' = record { place = a.place; eight = channels_kept rates d (call (i + 1) one) a.eight; is = subst IsOpen (sym there) s.still } in
        record {
          stays_open = open_there;
          goes = λ ps h.
              let x : Event = call (i + 1) (set_list ps) in
              let next : Any × Answer = any_step rates d.clock (here one).0 x in
              step_open (set_list (p ∷ ps)) refl ∙ ap from (s.goes ps h)
              ∙ ap (λ (z : Device). (z, next.1)) (sym (twice rates d.clock i d (any_at i d) (call (i + 1) one) x) ∙ ap (with_any i next.0) (sym (after_one rates d (call (i + 1) one) i a.eight (call_only i one (all_nameable one i refl)))))
              ∙ sym (step_spoken rates d' x i open_there.eight (unfold speaker in number_place (set_list ps) i a.place (all_nameable (set_list ps) i refl))
              ∙ ap₂ (λ (t : ℕ) (c : Any). (with_any i (any_step rates t c x).0 d', (any_step rates t c x).1)) clock there);
        }

    pub set_stop : (ps : Pairs) → length (p ∷ ps) ≤ most_pairs → ((at one).1.code ≡ 0 → ⊥) → at (set_list (p ∷ ps)) ≡ at one
    set_stop ps h n =
        step_open (set_list (p ∷ ps)) refl ∙ ap from (set_refused rates d.clock (i + 1) (any_at i d) a.is p ps h (λ z. n (sym (code_here one refl) ∙ z))) ∙ sym (step_open one refl)

    set_answers : (at one).1 ≡ says (at one).1.code 0 []
    set_answers =
        ap (λ (s : Device × Answer). s.1) (step_open one refl) ∙ set_says rates d.clock (i + 1) (any_at i d) a.is p.0 p.1
        ∙ ap (λ (n : ℕ). says n 0 []) (code_here one refl)

    -- an accepted get leaves the device
    pub get_leaves_all : (at (get_parameter p.0)).1.code ≡ 0 → (at (get_parameter p.0)).0 ≡ d
    get_leaves_all e =
        ap (λ (s : Device × Answer). s.0) (step_open (get_parameter p.0) refl)
        ∙ ap (λ (c : Any). with_any i c d) (get_leaves rates d.clock (i + 1) (any_at i d) a.is p (code_here (get_parameter p.0) refl ∙ e)) ∙ with_any_same i d

    pub get_step : (ps : Pairs) → length (p ∷ ps) ≤ most_pairs → (at (get_parameter p.0)).1.code ≡ 0
        → at (get_list (p ∷ ps)) ≡ ((at (get_list ps)).0, says (at (get_list ps)).1.code 0 (p.0 ∷ (at (get_parameter p.0)).1.value ∷ (at (get_list ps)).1.buffer))
    get_step ps h e =
        step_open (get_list (p ∷ ps)) refl ∙ ap from (get_goes rates d.clock (i + 1) (any_at i d) a.is p ps h (code_here (get_parameter p.0) refl ∙ e))
        ∙ sym (ap₂ (λ (s v : Device × Answer). (s.0, says s.1.code 0 (p.0 ∷ v.1.value ∷ s.1.buffer))) (step_open (get_list ps) refl) (step_open (get_parameter p.0) refl))

    pub get_stop : (ps : Pairs) → length (p ∷ ps) ≤ most_pairs → ((at (get_parameter p.0)).1.code ≡ 0 → ⊥)
        → at (get_list (p ∷ ps)) ≡ ((at (get_parameter p.0)).0, says (at (get_parameter p.0)).1.code 0 (flat (p ∷ ps)))
    get_stop ps h n =
        let x : Call = get_parameter p.0 in
        step_open (get_list (p ∷ ps)) refl ∙ ap from (get_refused rates d.clock (i + 1) (any_at i d) a.is p ps h (λ z. n (sym (code_here x refl) ∙ z)))
        ∙ sym (ap (λ (s : Device × Answer). (s.0, says s.1.code 0 (flat (p ∷ ps)))) (step_open x refl))

-- a call on no channel or on a closed one is refused with 0x02; else its channel is open
by_channel : {G : Type 0} (rates : List ℕ) (d : Device) → EightChannels d → (k : ℕ) → (((x : Call) → raw_only x ≡ false → step rates d (call k x) ≡ (d, says 0x02 0 (lent x))) → G)
    → ((i : ℕ) → k ≡ i + 1 → OpenAt i d → G) → G
unfolding any_step chan_step iso_step on_call noted notes on_iso_call iso_noted iso_notes says
by_channel {G} rates d eight k refused there = by (within 1 channels k) refl
  where
    on_closed : (c : Any) → any_at (k - 1) d ≡ c → ((x : Call) → any_step rates d.clock c (call k x) ≡ (c, says 0x02 0 (lent x))) → within 1 channels k ≡ true → G
    on_closed c e says_so t =
        refused
        (λ x all.
        step_spoken rates d (call k x) (k - 1) eight (call_heard k x (ap (λ (b : Bool). b && nameable x (k - 1)) t ∙ all_nameable x (k - 1) all))
        ∙ ap (λ (z : Any). (with_any (k - 1) (any_step rates d.clock z (call k x)).0 d, (any_step rates d.clock z (call k x)).1)) e
        ∙ ap (λ (z : Any × Answer). (with_any (k - 1) z.0 d, z.1)) (says_so x)
        ∙ ap (λ (z : Device). (z, says 0x02 0 (lent x))) (ap (λ (z : Any). with_any (k - 1) z d) (sym e) ∙ with_any_same (k - 1) d))

    on_open_law : IsOpen (any_at (k - 1) d) → within 1 channels k ≡ true → G
    on_open_law o t =
        let low : 1 ≤ k = within_low 1 channels k (true_T _ t) in
        let high : k ≤ channels = within_high 1 channels k (true_T _ t) in
        there (k - 1) (omega arith) (record { place = omega arith; eight = eight; is = o })

    on_place : (c : Any) → any_at (k - 1) d ≡ c → within 1 channels k ≡ true → G
    on_place (raw closed) e t = on_closed (raw closed) e (λ x. refl) t
    on_place (raw (opened o)) e t = on_open_law (subst IsOpen (sym e) (open_raw o)) t
    on_place (iso shut) e t = on_closed (iso shut) e (λ x. refl) t
    on_place (iso (ready o)) e t = on_open_law (subst IsOpen (sym e) (open_iso o)) t

    by : (b : Bool) → within 1 channels k ≡ b → G
    by false t = refused (λ x all. step_no_channel rates d k x eight t)
    by true t = on_place (any_at (k - 1) d) refl t

-- ---- A LIST IS ITS SINGLE CALLS IN A ROW, up to the first refused one

pub set_in_row : (rates : List ℕ) (i : ℕ) (ps : Pairs) (d : Device) → OpenAt i d → length ps ≤ most_pairs → step rates d (call (i + 1) (set_list ps)) ≡ set_singly rates d (i + 1) ps
unfolding set_singly
set_in_row rates i [] d a h = set_none rates d i a
set_in_row rates i (p ∷ ps) d a h = by (either s.1.code) (λ a'. set_in_row rates i ps s.0 a' (omega arith))
  where
    s : Device × Answer
    s = step rates d (call (i + 1) (set_parameter p.0 p.1))

    by : (s.1.code ≡ 0) ⊎ (s.1.code ≡ 0 → ⊥) → (OpenAt i s.0 → step rates s.0 (call (i + 1) (set_list ps)) ≡ set_singly rates s.0 (i + 1) ps)
        → step rates d (call (i + 1) (set_list (p ∷ ps))) ≡ (if eqb s.1.code 0x00 then set_singly rates s.0 (i + 1) ps else s)
    by (inl e) rec = let g = set_step rates d i a p e in rw (eq-eqb s.1.code 0 e) (g.goes ps h ∙ rec g.stays_open)
    by (inr n) rec = rw (ne_eqb s.1.code 0 n) (set_stop rates d i a p ps h n)

pub get_in_row : (rates : List ℕ) (i : ℕ) (ps : Pairs) (d : Device) → OpenAt i d → length ps ≤ most_pairs → step rates d (call (i + 1) (get_list ps)) ≡ get_singly rates d (i + 1) ps
unfolding get_singly
get_in_row rates i [] d a h = get_none rates d i a
get_in_row rates i (p ∷ ps) d a h = by (either s.1.code) (get_in_row rates i ps d a (omega arith))
  where
    s : Device × Answer
    s = step rates d (call (i + 1) (get_parameter p.0))

    more : Device → Device × Answer
    more x = get_singly rates x (i + 1) ps

    with_value : Device × Answer → Device × Answer
    with_value m = (m.0, says m.1.code 0 (p.0 ∷ s.1.value ∷ m.1.buffer))

    by : (s.1.code ≡ 0) ⊎ (s.1.code ≡ 0 → ⊥) → step rates d (call (i + 1) (get_list ps)) ≡ more d
        → step rates d (call (i + 1) (get_list (p ∷ ps))) ≡ (if eqb s.1.code 0x00 then with_value (more s.0) else (s.0, says s.1.code 0 (flat (p ∷ ps))))
    by (inl e) rec = rw (eq-eqb s.1.code 0 e) (get_step rates d i a p ps h e ∙ ap with_value (rec ∙ ap more (sym (get_leaves_all rates d i a p e))))
    by (inr n) rec = rw (ne_eqb s.1.code 0 n) (get_stop rates d i a p ps h n)

-- a list's answer is its code alone
pub list_value : (rates : List ℕ) (i : ℕ) (ps : Pairs) (d : Device) → OpenAt i d → length ps ≤ most_pairs → (step rates d (call (i + 1) (get_list ps))).1.value ≡ 0
unfolding says
list_value rates i [] d a h = ap (λ (s : Device × Answer). s.1.value) (get_none rates d i a)
list_value rates i (p ∷ ps) d a h = by (either (step rates d (call (i + 1) (get_parameter p.0))).1.code)
  where
    by : ((step rates d (call (i + 1) (get_parameter p.0))).1.code ≡ 0) ⊎ ((step rates d (call (i + 1) (get_parameter p.0))).1.code ≡ 0 → ⊥)
        → (step rates d (call (i + 1) (get_list (p ∷ ps)))).1.value ≡ 0
    by (inl e) = ap (λ (s : Device × Answer). s.1.value) (get_step rates d i a p ps h e)
    by (inr n) = ap (λ (s : Device × Answer). s.1.value) (get_stop rates d i a p ps h n)

-- ---- ONE PAIR IS THE SINGLE CALL

-- the answer of a single get, in a list of one pair
abbrev pub in_pair : ℕ → ℕ → Answer → Answer
in_pair p w a = says a.code 0 (p ∷ (if eqb a.code 0 then a.value else w) ∷ [])

module _ (rates : List ℕ) (d : Device) (eight : EightChannels d) (k : ℕ) where
  pub one_set : (p v : ℕ) → step rates d (call k (set_list ((p, v) ∷ []))) ≡ step rates d (call k (set_parameter p v))
  unfolding lent set_singly
  one_set p v =
      by_channel rates d eight k (λ no. no (set_list ((p, v) ∷ [])) refl ∙ sym (no (set_parameter p v) refl))
      (λ i e a.
      subst (λ (j : ℕ). step rates d (call j (set_list ((p, v) ∷ []))) ≡ step rates d (call j (set_parameter p v))) (sym e)
      (set_in_row rates i ((p, v) ∷ []) d a (omega arith) ∙ accepted i a (either _)))
    where
      accepted : (i : ℕ) (a : OpenAt i d) → let s : Device × Answer = step rates d (call (i + 1) (set_parameter p v)) in
          (s.1.code ≡ 0) ⊎ (s.1.code ≡ 0 → ⊥) → (if eqb s.1.code 0x00 then (s.0, says 0x00 0 []) else s) ≡ s
      accepted i a (inl e) =
          let s : Device × Answer = step rates d (call (i + 1) (set_parameter p v)) in
          rw (eq-eqb s.1.code 0 e) (ap (λ (x : Answer). (s.0, x)) (sym (set_answers rates d i a (p, v) ∙ ap (λ (n : ℕ). says n 0 []) e)))
      accepted i a (inr n) = rw (ne_eqb (step rates d (call (i + 1) (set_parameter p v))).1.code 0 n) refl

  pub one_get : (p w : ℕ) → step rates d (call k (get_list ((p, w) ∷ []))) ≡ ((step rates d (call k (get_parameter p))).0, in_pair p w (step rates d (call k (get_parameter p))).1)
  unfolding lent flat says get_singly
  one_get p w =
      by_channel rates d eight k (λ no. no (get_list ((p, w) ∷ [])) refl ∙ ap (λ (s : Device × Answer). (s.0, in_pair p w s.1)) (sym (no (get_parameter p) refl)))
      (λ i e a.
      subst (λ (j : ℕ). step rates d (call j (get_list ((p, w) ∷ []))) ≡ ((step rates d (call j (get_parameter p))).0, in_pair p w (step rates d (call j (get_parameter p))).1)) (sym e)
      (get_in_row rates i ((p, w) ∷ []) d a (omega arith) ∙ accepted (step rates d (call (i + 1) (get_parameter p))) (either _)))
    where
      accepted : (s : Device × Answer) → (s.1.code ≡ 0) ⊎ (s.1.code ≡ 0 → ⊥)
          → ◌≡◌ {A = Device × Answer} (if eqb s.1.code 0x00 then (s.0, says 0x00 0 (p ∷ s.1.value ∷ [])) else (s.0, says s.1.code 0 (p ∷ w ∷ []))) (s.0, in_pair p w s.1)
      accepted s (inl e) = rw (eq-eqb s.1.code 0 e) (ap (λ (n : ℕ). (s.0, says n 0 (p ∷ s.1.value ∷ []))) (sym e))
      accepted s (inr n) = rw (ne_eqb s.1.code 0 n) refl

-- ---- WHAT A LIST LEAVES THAT A PAIR ENDED

-- a list that the channel begins: at most 16 pairs, and it is open
record Begun (d : Device) (k : ℕ) (ps : Pairs) : Type 0 where
  place : ℕ
  number : k ≡ place + 1
  there : OpenAt place d
  few : length ps ≤ most_pairs

set_ended_at : (rates : List ℕ) (i : ℕ) (ps : Pairs) (d : Device) → OpenAt i d → length ps ≤ most_pairs
    → ((step rates d (call (i + 1) (set_list ps))).1.code ≡ 0 → ⊥) → SetEnded rates d (i + 1) ps
unfolding says
set_ended_at rates i [] d a h n = absurd (n (ap (λ (s : Device × Answer). s.1.code) (set_none rates d i a)))
set_ended_at rates i (p ∷ ps) d a h n = by (either s.1.code) (λ a'. set_ended_at rates i ps s.0 a' (omega arith))
  where
    s : Device × Answer
    s = step rates d (call (i + 1) (set_parameter p.0 p.1))

    by : (s.1.code ≡ 0) ⊎ (s.1.code ≡ 0 → ⊥)
        → (OpenAt i s.0 → ((step rates s.0 (call (i + 1) (set_list ps))).1.code ≡ 0 → ⊥) → SetEnded rates s.0 (i + 1) ps) → SetEnded rates d (i + 1) (p ∷ ps)
    by (inl e) rec =
        let g = set_step rates d i a p e in
        let f : SetEnded rates s.0 (i + 1) ps = rec g.stays_open (λ z. n (ap (λ (x : Device × Answer). x.1.code) (g.goes ps h) ∙ z)) in
        let short : length (p ∷ f.before) ≤ most_pairs = omega (arith, ap length f.is, length-append f.before (f.refused ∷ f.behind)) in
        let on = g.goes f.before short in
        record {
          before = p ∷ f.before;
          refused = f.refused;
          behind = f.behind;
          is = ap (λ (l : Pairs). p ∷ l) f.is;
          accepted = ap (λ (x : Device × Answer). x.1.code) on ∙ f.accepted;
          leaves = g.goes ps h ∙ f.leaves ∙ ap (λ (x : Device × Answer). step rates x.0 (call (i + 1) (set_parameter f.refused.0 f.refused.1))) (sym on);
        }
    by (inr m) rec =
        record {
          before = [];
          refused = p;
          behind = ps;
          is = refl;
          accepted = ap (λ (x : Device × Answer). x.1.code) (set_none rates d i a);
          leaves = set_stop rates d i a p ps h m ∙ ap (λ (x : Device × Answer). step rates x.0 (call (i + 1) (set_parameter p.0 p.1))) (sym (set_none rates d i a));
        }

get_ended_at : (rates : List ℕ) (i : ℕ) (ps : Pairs) (d : Device) → OpenAt i d → length ps ≤ most_pairs
    → ((step rates d (call (i + 1) (get_list ps))).1.code ≡ 0 → ⊥) → GetEnded rates d (i + 1) ps
unfolding says
get_ended_at rates i [] d a h n = absurd (n (ap (λ (s : Device × Answer). s.1.code) (get_none rates d i a)))
get_ended_at rates i (p ∷ ps) d a h n = by (either s.1.code) (get_ended_at rates i ps d a (omega arith))
  where
    s : Device × Answer
    s = step rates d (call (i + 1) (get_parameter p.0))

    by : (s.1.code ≡ 0) ⊎ (s.1.code ≡ 0 → ⊥) → (((step rates d (call (i + 1) (get_list ps))).1.code ≡ 0 → ⊥) → GetEnded rates d (i + 1) ps) → GetEnded rates d (i + 1) (p ∷ ps)
    by (inl e) rec =
        let go = get_step rates d i a p ps h e in
        let f : GetEnded rates d (i + 1) ps = rec (λ z. n (ap (λ (x : Device × Answer). x.1.code) go ∙ z)) in
        let short : length (p ∷ f.before) ≤ most_pairs = omega (arith, ap length f.is, length-append f.before (f.refused ∷ f.behind)) in
        let on = get_step rates d i a p f.before short e in
        let same : (step rates d (call (i + 1) (get_list f.before))).0 ≡ (step rates d (call (i + 1) (get_list (p ∷ f.before)))).0 = ap (λ (x : Device × Answer). x.0) (sym on) in
        record {
          before = p ∷ f.before;
          refused = f.refused;
          behind = f.behind;
          is = ap (λ (l : Pairs). p ∷ l) f.is;
          accepted = ap (λ (x : Device × Answer). x.1.code) on ∙ f.accepted;
          leaves = ap (λ (x : Device × Answer). x.0) go ∙ f.leaves ∙ ap (λ (x : Device). (step rates x (call (i + 1) (get_parameter f.refused.0))).0) same;
          code = ap (λ (x : Device × Answer). x.1.code) go ∙ f.code ∙ ap (λ (x : Device). (step rates x (call (i + 1) (get_parameter f.refused.0))).1.code) same;
          list =
              ap (λ (x : Device × Answer). x.1.buffer) go ∙ ap (λ (l : List ℕ). p.0 ∷ s.1.value ∷ l) f.list
              ∙ ap (λ (x : Device × Answer). x.1.buffer ++ flat (f.refused ∷ f.behind)) (sym on);
        }
    by (inr m) rec =
        let go = get_stop rates d i a p ps h m in
        let nothing = get_none rates d i a in
        let same : d ≡ (step rates d (call (i + 1) (get_list []))).0 = ap (λ (x : Device × Answer). x.0) (sym nothing) in
        record {
          before = [];
          refused = p;
          behind = ps;
          is = refl;
          accepted = ap (λ (x : Device × Answer). x.1.code) nothing;
          leaves = ap (λ (x : Device × Answer). x.0) go ∙ ap (λ (x : Device). (step rates x (call (i + 1) (get_parameter p.0))).0) same;
          code = ap (λ (x : Device × Answer). x.1.code) go ∙ ap (λ (x : Device). (step rates x (call (i + 1) (get_parameter p.0))).1.code) same;
          list = ap (λ (x : Device × Answer). x.1.buffer) go ∙ ap (λ (x : Device × Answer). x.1.buffer ++ flat (p ∷ ps)) (sym nothing);
        }

module _ (rates : List ℕ) (d : Device) (eight : EightChannels d) (k : ℕ) where
  -- a list that is answered with neither 0x02 nor 0x04 was begun
  begun : (ps : Pairs) (x : Call) → raw_only x ≡ false → ((j : ℕ) (c : Any) → IsOpen c → most_pairs < length ps → (any_step rates d.clock c (call j x)).1.code ≡ 0x04)
      → ((step rates d (call k x)).1.code ≡ 0x02 → ⊥) → ((step rates d (call k x)).1.code ≡ 0x04 → ⊥) → Begun d k ps
  unfolding says
  begun ps x all many no2 no4 = by_channel rates d eight k (λ no. absurd (no2 (ap (λ (s : Device × Answer). s.1.code) (no x all)))) there
    where
      there : (i : ℕ) → k ≡ i + 1 → OpenAt i d → Begun d k ps
      there i e a = short (ltb most_pairs (length ps)) refl
        where
          short : (b : Bool) → ltb most_pairs (length ps) ≡ b → Begun d k ps
          short true t =
              absurd (no4 (ap (λ (j : ℕ). (step rates d (call j x)).1.code) e ∙ ap (λ (s : Device × Answer). s.1.code) (step_open rates d i a x all) ∙ many (i + 1) (any_at i d) a.is (ltb-true most_pairs (length ps) t)))
          short false t = record { place = i; number = e; there = a; few = ltb-false most_pairs (length ps) t }

  -- a code that a pair gave is neither 0x00 nor 0x02 nor 0x04
  not_pair : (c n : ℕ) → member c pair_codes ≡ true → member n pair_codes ≡ false → c ≡ n → ⊥
  not_pair c n t f e = true≢false (sym t ∙ ap (λ (j : ℕ). member j pair_codes) e ∙ f)

  -- A SET LIST THAT A PAIR ENDED leaves what its accepted pairs leave, and then what the refused one leaves alone
  pub set_ended : (ps : Pairs) → member (step rates d (call k (set_list ps))).1.code pair_codes ≡ true → SetEnded rates d k ps
  unfolding pair_codes member
  set_ended ps t =
      let b = begun ps (set_list ps) refl (λ j c o h. many_set rates d.clock j c o ps h) (not_pair _ 2 t refl) (not_pair _ 4 t refl) in
      subst (λ (j : ℕ). ((step rates d (call j (set_list ps))).1.code ≡ 0 → ⊥) → SetEnded rates d j ps) (sym b.number) (set_ended_at rates b.place ps d b.there b.few) (not_pair _ 0 t refl)

  -- A GET LIST THAT A PAIR ENDED: the accepted pairs have their values, and the refused one and all behind it stay
  pub get_ended : (ps : Pairs) → member (step rates d (call k (get_list ps))).1.code pair_codes ≡ true → GetEnded rates d k ps
  unfolding pair_codes member
  get_ended ps t =
      let b = begun ps (get_list ps) refl (λ j c o h. many_get rates d.clock j c o ps h) (not_pair _ 2 t refl) (not_pair _ 4 t refl) in
      subst (λ (j : ℕ). ((step rates d (call j (get_list ps))).1.code ≡ 0 → ⊥) → GetEnded rates d j ps) (sym b.number) (get_ended_at rates b.place ps d b.there b.few) (not_pair _ 0 t refl)

  -- ---- A LIST WHOSE FIRST PAIR IS REFUSED does what that pair alone does: the refusal of a single call, and so nothing but its code is left

  module _ (p : ℕ × ℕ) (ps : Pairs) (h : length (p ∷ ps) ≤ most_pairs) where
    pub set_at_once : ((step rates d (call k (set_parameter p.0 p.1))).1.code ≡ 0x00 → ⊥) → step rates d (call k (set_list (p ∷ ps))) ≡ step rates d (call k (set_parameter p.0 p.1))
    unfolding lent
    set_at_once =
        by_channel rates d eight k (λ no n. no (set_list (p ∷ ps)) refl ∙ sym (no (set_parameter p.0 p.1) refl))
        (λ i e a.
        subst (λ (j : ℕ). ((step rates d (call j (set_parameter p.0 p.1))).1.code ≡ 0x00 → ⊥) → step rates d (call j (set_list (p ∷ ps))) ≡ step rates d (call j (set_parameter p.0 p.1))) (sym e)
        (set_stop rates d i a p ps h))

    pub get_at_once : ((step rates d (call k (get_parameter p.0))).1.code ≡ 0x00 → ⊥)
        → step rates d (call k (get_list (p ∷ ps))) ≡ ((step rates d (call k (get_parameter p.0))).0, says (step rates d (call k (get_parameter p.0))).1.code 0 (flat (p ∷ ps)))
    unfolding lent says
    get_at_once =
        by_channel rates d eight k (λ no n. no (get_list (p ∷ ps)) refl ∙ ap (λ (s : Device × Answer). (s.0, says s.1.code 0 (flat (p ∷ ps)))) (sym (no (get_parameter p.0) refl)))
        (λ i e a.
        subst (λ (j : ℕ). ((step rates d (call j (get_parameter p.0))).1.code ≡ 0x00 → ⊥) → step rates d (call j (get_list (p ∷ ps))) ≡ ((step rates d (call j (get_parameter p.0))).0, says (step rates d (call j (get_parameter p.0))).1.code 0 (flat (p ∷ ps)))) (sym e)
        (get_stop rates d i a p ps h))
