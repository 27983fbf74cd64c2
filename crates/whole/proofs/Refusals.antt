-- DEMAND 1 over the whole box, for any set of rates: every answer's code is in the table, and a refusal leaves the device and the lent buffer as they
-- were, but for the last code of the channel that it names. What is said of raw and of ISO 15765 channels is said once, of either. Assumes nothing.
use Rattle.std.specs.Prelude.{if◌then◌else◌}
use Prim.Native.Nat.{ℕ, ◌+◌, ◌-◌, ◌≤◌, ◌<◌}
use mathlib.Core.Path.{◌≡◌, refl, sym, ap, ap₂, ◌∙◌, subst, fun_ext}
use mathlib.Core.Bool.{Bool, true, false, ◌&&◌}
use mathlib.Core.Option.{Option, none, some}
use mathlib.Core.List.{List, [], ◌∷◌, ◌++◌, map, map-id}
use native.Mathlib.Omega.{arith}
use borrow.Author.Tests.{eqb-true, ltb-true}
use lib.ListN.{length}
use lib.Dec.{T, eqb, leb, ltb}
use Rattle.codec.specs.Plain.{member, within}
use Rattle.codec.proofs.Tests.{left, true_T, within_low}
use Rattle.machine.specs.Limits.{last_line}
use Rattle.machine.specs.Codes.{step_codes, code_of}
use Rattle.machine.specs.Channel.{Chan, Call, Answer, says, lent, on_call, on_connect, on_frame, on_advance, connect_code, frame_code, noted, noted_in_use, notes}
use Rattle.machine.specs.Step.{Event, connect, call, frame, advance, close, lent_by, chan_step, clock_after}
use Rattle.machine.specs.Step as raw_step
use Rattle.machine.proofs.Refusals.{in_wider, if_out, either_in, code_of_listed, not_refused, connect_fair, call_noted, noted_in_use_answer, noted_in_use_leaves, chan_step_listed, frame_left, advance_left, advance_over, clock_left}
use Rattle.machine.proofs.Refusals as raw_laws
use Rattle.iso.specs.Iso.{Iso, shut, ready, iso_codes, on_iso_connect, on_iso_call, on_iso_frame, on_iso_advance, iso_connect_code, iso_notes, iso_noted, iso_noted_in_use}
use Rattle.iso.specs.Step.{iso_step}
use Rattle.iso.proofs.Fair.{ready_codes, iso_noted_in_use_answer, iso_noted_in_use_leaves, iso_connect_fair, iso_call_noted, iso_frame_left, iso_advance_left}
use Rattle.whole.specs.Device.{channels, Device, Any, raw, iso, chan_at, iso_at, any_at, nameable, connected, speaker, own_answer, any_step, answer, step}
use Rattle.whole.specs.Demands.{EightChannels, box_codes, box_table, refusal, with_any, any_notes, noted_at, noted_by, remembers}
use Rattle.whole.proofs.Dispatch.{same_device, with_line, with_line_same, with_line_beyond, with_any_same, answer_spoken, answer_own, step_spoken, step_frame, step_advance, step_close, step_no_connect, step_unnamed, call_heard}

-- ---- codes

step_box : (n : ℕ) → T (member n step_codes) → T (member n box_codes)
step_box n t = in_wider step_codes box_codes (unfold member step_codes box_codes in tt) n t

iso_box : (n : ℕ) → T (member n iso_codes) → T (member n box_codes)
iso_box n t = in_wider iso_codes box_codes (unfold member iso_codes step_codes box_codes in tt) n t

-- a choice under a function
under : {A B : Type 0} (g : A → B) (b : Bool) (x y : A) → g (if b then x else y) ≡ (if b then g x else g y)
under g true x y = refl
under g false x y = refl

module _ (rates : List ℕ) where
  iso_call_listed : (now : ℕ) (c : Iso) (x : Call) → T (member (on_iso_call rates now c x).1.code box_codes)
  unfolding on_iso_call says
  iso_call_listed now shut x = unfold member step_codes box_codes in tt
  iso_call_listed now (ready o) x = iso_box _ (ready_codes rates now o x)

  iso_step_listed : (now : ℕ) (c : Iso) (e : Event) → T (member (iso_step rates now c e).1.code box_codes)
  unfolding iso_step iso_noted says
  iso_step_listed now c (connect l p f r) =
      step_box _ (subst (λ (a : Answer). T (member a.code step_codes)) (sym (iso_noted_in_use_answer (on_iso_connect rates c l p f r))) (iso_connect_fair rates c l p f r).listed)
  iso_step_listed now c (call k x) = iso_call_listed now c x
  iso_step_listed now c (frame l w n b) = unfold member step_codes box_codes in tt
  iso_step_listed now c (advance t) = unfold member step_codes box_codes in tt
  iso_step_listed now c close = unfold member step_codes box_codes in tt

  any_step_listed : (now : ℕ) (c : Any) (e : Event) → T (member (any_step rates now c e).1.code box_codes)
  unfolding any_step
  any_step_listed now (raw c) e = step_box _ (chan_step_listed rates now c e)
  any_step_listed now (iso c) e = iso_step_listed now c e

  own_answer_listed : (e : Event) → T (member (own_answer rates e).code box_codes)
  unfolding own_answer says
  own_answer_listed (connect l p f r) = step_box _ (unfold connect_code iso_connect_code step_codes member in search (either_in, code_of_listed, tt) depth 16)
  own_answer_listed (call k x) = step_box _ (raw_laws.own_answer_listed rates (call k x))
  own_answer_listed (frame l w n b) = step_box _ (raw_laws.own_answer_listed rates (frame l w n b))
  own_answer_listed (advance t) = step_box _ (raw_laws.own_answer_listed rates (advance t))
  own_answer_listed close = step_box _ (raw_laws.own_answer_listed rates close)

  -- every answer's code is one of those that an event can be answered with, and so never 0x1A
  pub step_codes_law : (d : Device) (e : Event) → T (member (step rates d e).1.code box_codes)
  unfolding step
  step_codes_law d e = by (speaker e) refl
    where
      by : (s : Option ℕ) → speaker e ≡ s → T (member (answer rates d e).code box_codes)
      by none q = rw (answer_own rates d e q) (own_answer_listed e)
      by (some i) q = rw (answer_spoken rates d e i q) (any_step_listed d.clock (any_at i d) e)

  -- DEMAND 1. Every answer's code is in the table
  pub codes_in_table : (d : Device) (e : Event) → T (member (step rates d e).1.code box_table)
  codes_in_table d e = in_wider box_codes box_table (unfold member step_codes box_codes box_table in tt) (step rates d e).1.code (step_codes_law d e)

  -- ---- a channel of either kind

  -- what a refused connect leaves: the channel, which notes 0x14 alone
  connect_noted : (now : ℕ) (c : Any) (l p f r : ℕ) → T (refusal (connect l p f r) (any_step rates now c (connect l p f r)).1)
      → ((any_step rates now c (connect l p f r)).0
      ≡ (if eqb (any_step rates now c (connect l p f r)).1.code 0x14 then any_notes (any_step rates now c (connect l p f r)).1.code c else c))
      × ((any_step rates now c (connect l p f r)).1.buffer ≡ [])
  unfolding any_step chan_step iso_step any_notes
  connect_noted now (raw c) l p f r =
      let x : Chan × Answer = on_connect rates c l p f r in
      subst (λ (y : Answer). T (refusal (connect l p f r) y) → (raw (noted_in_use x).0 ≡ (if eqb y.code 0x14 then raw (notes y.code c) else raw c)) × (y.buffer ≡ [])) (sym (noted_in_use_answer x))
      (λ t.
      let fair = (connect_fair rates c l p f r).leaves t in
      (ap raw (noted_in_use_leaves x c fair.0) ∙ under raw (eqb x.1.code 0x14) (notes x.1.code c) c, unfold lent_by in fair.1))
  connect_noted now (iso c) l p f r =
      let x : Iso × Answer = on_iso_connect rates c l p f r in
      subst (λ (y : Answer). T (refusal (connect l p f r) y) → (iso (iso_noted_in_use x).0 ≡ (if eqb y.code 0x14 then iso (iso_notes y.code c) else iso c)) × (y.buffer ≡ [])) (sym (iso_noted_in_use_answer x))
      (λ t.
      let fair = (iso_connect_fair rates c l p f r).leaves t in
      (ap iso (iso_noted_in_use_leaves x c fair.0) ∙ under iso (eqb x.1.code 0x14) (iso_notes x.1.code c) c, unfold lent_by in fair.1))

  -- what a refused call leaves: the channel, which where it is open notes the code
  any_call_noted : (now : ℕ) (c : Any) (k : ℕ) (x : Call) → T (refusal (call k x) (any_step rates now c (call k x)).1)
      → ((any_step rates now c (call k x)).0 ≡ (if eqb (any_step rates now c (call k x)).1.code 0x02 then c else any_notes (any_step rates now c (call k x)).1.code c))
      × ((any_step rates now c (call k x)).1.buffer ≡ lent_by (call k x))
  unfolding any_step chan_step any_notes noted
  any_call_noted now (raw c) k x t =
      let q = call_noted rates now k x c t in
      let code : ℕ = (on_call rates now c x).1.code in
      (ap raw q.0 ∙ under raw (eqb code 0x02) c (notes code c), q.1)
  any_call_noted now (iso c) k x t =
      let q = iso_call_noted rates now k x c (unfold iso_step iso_noted in t) in
      let code : ℕ = (on_iso_call rates now c x).1.code in
      unfold iso_step iso_noted in (ap iso (unfold iso_step iso_noted in q.0) ∙ under iso (eqb code 0x02) c (iso_notes code c), q.1)

  -- ---- every event

  -- a step that, where it is a refusal, leaves the device and the lent buffer, but for the last code of the channel that it names
  abbrev Left : Device → Event → Device × Answer → Type 0
  Left d e s = T (refusal e s.1) → (s.0 ≡ remembers e s.1.code d) × (s.1.buffer ≡ lent_by e)

  connect_left : (d : Device) (l p f r i : ℕ) → EightChannels d → connected l p ≡ some i → Left d (connect l p f r) (step rates d (connect l p f r))
  unfolding remembers noted_at noted_by speaker lent_by
  connect_left d l p f r i w h =
      let a : Any × Answer = any_step rates d.clock (any_at i d) (connect l p f r) in
      subst (Left d (connect l p f r)) (sym (step_spoken rates d (connect l p f r) i w h))
      (λ t.
      let q = connect_noted d.clock (any_at i d) l p f r t in (
        ap (λ (c : Any). with_any i c d) q.0
            ∙ under (λ (c : Any). with_any i c d) (eqb a.1.code 0x14) (any_notes a.1.code (any_at i d)) (any_at i d)
            ∙ ap (λ (e : Device). if eqb a.1.code 0x14 then noted_at i a.1.code d else e) (with_any_same i d)
            ∙ ap (λ (o : Option ℕ). if eqb a.1.code 0x14 then noted_by o a.1.code d else d) (sym h),
        q.1,
      ))

  call_left : (d : Device) (k i : ℕ) (x : Call) → EightChannels d → k ≡ i + 1 → speaker (call k x) ≡ some i → Left d (call k x) (step rates d (call k x))
  unfolding remembers noted_at
  call_left d k i x w e h =
      let a : Any × Answer = any_step rates d.clock (any_at i d) (call k x) in
      let back : i ≡ k - 1 = omega arith in
      subst (Left d (call k x)) (sym (step_spoken rates d (call k x) i w h))
      (λ t.
      let q = any_call_noted d.clock (any_at i d) k x t in (
        ap (λ (c : Any). with_any i c d) q.0
            ∙ under (λ (c : Any). with_any i c d) (eqb a.1.code 0x02) (any_at i d) (any_notes a.1.code (any_at i d))
            ∙ ap (λ (e : Device). if eqb a.1.code 0x02 then e else noted_at i a.1.code d) (with_any_same i d)
            ∙ ap (λ (j : ℕ). if eqb a.1.code 0x02 then d else noted_at j a.1.code d) back,
        q.1,
      ))

  -- a connect that names no channel has none to note its code
  unnoted : (d : Device) (l p code : ℕ) → connected l p ≡ none → d ≡ (if eqb code 0x14 then noted_by (connected l p) code d else d)
  unfolding noted_by
  unnoted d l p code q = go (eqb code 0x14) ∙ ap (λ (x : Option ℕ). if eqb code 0x14 then noted_by x code d else d) (sym q)
    where
      go : (b : Bool) → d ≡ (if b then d else d)
      go true = refl
      go false = refl

  -- a bad frame leaves both channels of its line
  frame_stays : (d : Device) (l w n : ℕ) (b : List ℕ) → EightChannels d → T (refusal (frame l w n b) (own_answer rates (frame l w n b))) → (g : Bool) → ltb last_line l ≡ g
      → with_line l (on_frame d.clock (chan_at l d) w n b) (on_iso_frame d.clock (iso_at l d) w n b) d ≡ d
  unfolding own_answer
  frame_stays d l w n b eight t true q =
      let over : last_line < l = ltb-true last_line l q in
      with_line_beyond l _ _ d (omega (arith, eight.raws)) (omega (arith, eight.isos))
  frame_stays d l w n b eight t false q =
      ap₂ (λ (c : Chan) (z : Iso). with_line l c z d) (frame_left rates l w n b d.clock (chan_at l d) q t) (iso_frame_left rates l w n b d.clock (iso_at l d) q t) ∙ with_line_same l d

  refused_left : (d : Device) (e : Event) → EightChannels d → Left d e (step rates d e)
  unfolding own_answer raw_step.own_answer says lent_by remembers speaker
  refused_left d (connect l p f r) w = by (connected l p) refl
    where
      by : (o : Option ℕ) → connected l p ≡ o → Left d (connect l p f r) (step rates d (connect l p f r))
      by none q = subst (Left d (connect l p f r)) (sym (step_no_connect rates d l p f r w q)) (λ t. (unnoted d l p (own_answer rates (connect l p f r)).code q, refl))
      by (some i) q = connect_left d l p f r i w q
  refused_left d (call k x) w = by (within 1 channels k && nameable x (k - 1)) refl
    where
      by : (b : Bool) → (within 1 channels k && nameable x (k - 1)) ≡ b → Left d (call k x) (step rates d (call k x))
      by true q =
          let low : 1 ≤ k = within_low 1 channels k (left (within 1 channels k) (nameable x (k - 1)) (true_T _ q)) in
          let e : k ≡ k - 1 + 1 = omega arith in
          call_left d k (k - 1) x w e (call_heard k x q)
      by false q = subst (Left d (call k x)) (sym (step_unnamed rates d k x w q)) (λ t. (refl, refl))
  refused_left d (frame l w n b) eight =
      subst (Left d (frame l w n b)) (sym (step_frame rates d l w n b eight)) (λ t. (frame_stays d l w n b eight t (ltb last_line l) refl, refl))
  refused_left d (advance t) w =
      subst (Left d (advance t)) (sym (step_advance rates d t))
      (λ r.
      let over = advance_over rates t r in (
        same_device (clock_left rates t d.clock over) (ap (λ (f : Chan → Chan). map f d.chans) (fun_ext (advance_left rates t over)) ∙ map-id d.chans)
            (ap (λ (f : Iso → Iso). map f d.isos) (fun_ext (iso_advance_left rates t over)) ∙ map-id d.isos),
        refl,
      ))
  refused_left d close w = subst (Left d close) (sym (step_close rates d)) (λ t. absurd (not_refused close (says 0x00 0 []) refl t))

  -- DEMAND 1. Every refusal leaves the device and the lent buffer as they were, but for the last code of the channel named, which becomes its code
  pub refused_leaves : (d : Device) (e : Event) → EightChannels d → refusal e (step rates d e).1 ≡ true
      → ((step rates d e).0 ≡ remembers e (step rates d e).1.code d) × ((step rates d e).1.buffer ≡ lent_by e)
  refused_leaves d e w h = refused_left d e w (true_T (refusal e (step rates d e).1) h)
