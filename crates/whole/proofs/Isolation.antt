-- DEMAND 3 over the machine of `specs/`, for any set of rates. The proofs unfold the dispatcher and no more: what a channel does with an event is
-- nowhere looked into. From power-on, with no premise on the device: FromPowerOn. Assumes nothing.
use Rattle.std.specs.Prelude.{if◌then◌else◌}
use Prim.Native.Nat.{ℕ, ◌+◌, ◌<◌}
use mathlib.Core.Path.{◌≡◌, refl, sym, ap, ap₂, ◌∙◌, subst}
use mathlib.Core.Logic.{◌≢◌, ◌⊎◌, inl, inr, ⊎_elim}
use mathlib.Core.Bool.{Bool, true, false, true≢false}
use mathlib.Core.Option.{Option, none, some}
use mathlib.Core.List.{List, [], ◌∷◌}
use native.Mathlib.Omega.{arith}
use borrow.Author.Tests.{eqb-true, eq-eqb}
use lib.ListN.{length}
use lib.Seq.{ext_get_or}
use lib.Dec.{T, eqb, eqb→eq, lit<}
use Rattle.codec.proofs.Tests.{left}
use Rattle.machine.specs.Channel.{Call, Answer}
use Rattle.machine.specs.Step.{Event, connect, call, clock_after}
use Rattle.whole.specs.Device.{Device, Any, any_at, touches, speaker, any_step, after, answer, step, run, answers}
use Rattle.whole.specs.Demands.{EightChannels, names, concerns, strike, answers_of, Alike, Projected, Apart, Exchanged, SameToEach, Arranged, Ignored, Names, by_call, by_raw, by_iso}
use Rattle.whole.proofs.Dispatch.{touches_concerned, speaker_only, speaker_eight, raw_only_law, iso_only, clock_stays, same_places, channels_kept, chan_after, chan_stays, none_move, answer_spoken, answer_own, run_channels_kept}

-- ---- the dispatcher against demand 3's words

-- whoever answers an event that concerns channel i is channel i
speaker_concerned : (i j : ℕ) (e : Event) → speaker e ≡ some j → concerns i e ≡ true → j ≡ i
speaker_concerned i j e h c = eqb-true j i (sym (speaker_only e j h i) ∙ touches_concerned i e ∙ c)

-- of two events that concern no channel both, one does not concern channel i
other_is_out : (i : ℕ) → i < 8 → (e e' : Event) → Apart e e' → concerns i e ≡ true → concerns i e' ≡ false
other_is_out i k e e' h c = by (concerns i e') refl
  where
    by : (b : Bool) → concerns i e' ≡ b → concerns i e' ≡ false
    by true q = absurd (h i k (subst T (sym c) tt) (subst T (sym q) tt))
    by false q = q

one_is_out : (i : ℕ) → i < 8 → (e e' : Event) → Apart e e' → (concerns i e ≡ false) ⊎ (concerns i e' ≡ false)
one_is_out i k e e' h = by (concerns i e) refl
  where
    by : (b : Bool) → concerns i e ≡ b → (concerns i e ≡ false) ⊎ (concerns i e' ≡ false)
    by true c = inr (other_is_out i k e e' h c)
    by false c = inl c

-- ---- one step

module _ (rates : List ℕ) where
  -- two devices that show channel i the same still do after the same event
  stepped : (i : ℕ) → i < 8 → (d d' : Device) (e : Event) → Alike i d d' → Alike i (step rates d e).0 (step rates d' e).0
  unfolding step after
  stepped i k d d' e a =
      record {
        clock = ap (λ (t : ℕ). clock_after t e) a.clock;
        chan =
            chan_after rates d e i a.here k
            ∙ ap₂ (λ (t : ℕ) (c : Any). if touches e i then (any_step rates t c e).0 else c) a.clock a.chan
            ∙ sym (chan_after rates d' e i a.there k);
        here = channels_kept rates d e a.here;
        there = channels_kept rates d' e a.there;
      }

  -- and after an event on one of them alone that does not concern it
  passed : (i : ℕ) → i < 8 → (d d' : Device) (e : Event) → concerns i e ≡ false → Alike i d d' → Alike i (step rates d e).0 d'
  unfolding step after
  passed i k d d' e h a =
      let apart : touches e i ≡ false = touches_concerned i e ∙ h in
      record {
        clock = clock_stays e i d.clock apart ∙ a.clock;
        chan = chan_stays rates d e i a.here k apart ∙ a.chan;
        here = channels_kept rates d e a.here;
        there = a.there;
      }

  -- an event that concerns it is answered the same on both
  answered : (i : ℕ) (d d' : Device) (e : Event) → concerns i e ≡ true → Alike i d d' → (step rates d e).1 ≡ (step rates d' e).1
  unfolding step
  answered i d d' e h a = by (speaker e) refl
    where
      by : (s : Option ℕ) → speaker e ≡ s → answer rates d e ≡ answer rates d' e
      by none q = answer_own rates d e q ∙ sym (answer_own rates d' e q)
      by (some j) q =
          let here : speaker e ≡ some i = q ∙ ap some (speaker_concerned i j e q h) in
          answer_spoken rates d e i here
          ∙ ap₂ (λ (t : ℕ) (c : Any). (any_step rates t c e).1) a.clock a.chan
          ∙ sym (answer_spoken rates d' e i here)

  -- ---- the projection

  -- DEMAND 3, projection, from any two devices that show channel i the same
  pub projection : (i : ℕ) → i < 8 → (es : List Event) (d d' : Device) → Alike i d d' → Projected rates i d d' es
  unfolding strike answers_of answers run
  projection i k [] d d' a = record { receives = refl; ends = a }
  projection i k (e ∷ es) d d' a = by (concerns i e) refl (projection i k es)
    where
      by : (b : Bool) → concerns i e ≡ b → ((d₁ d₂ : Device) → Alike i d₁ d₂ → Projected rates i d₁ d₂ es) → Projected rates i d d' (e ∷ es)
      by true h more =
          let q = more (step rates d e).0 (step rates d' e).0 (stepped i k d d' e a) in
          record {
            receives = rw h (ap₂ {C = List Answer} (λ x xs. x ∷ xs) (answered i d d' e h a) q.receives);
            ends = rw h q.ends;
          }
      by false h more =
          let q = more (step rates d e).0 d' (passed i k d d' e h a) in
          record { receives = rw h q.receives; ends = rw h q.ends }

  -- DEMAND 3, projection, from any device: strike out of any sequence all that does not concern a channel, and the channel receives the same
  -- answers and ends with the same state and clock
  pub projection_from : (i : ℕ) → i < 8 → (es : List Event) (d : Device) → EightChannels d → Projected rates i d d es
  projection_from i k es d h = projection i k es d d (record { clock = refl; chan = refl; here = h; there = h })

  -- ---- events that concern no channel

  -- DEMAND 3. An event that concerns none of the eight channels, as a call that names none, changes nothing, and no state shows in its answer
  pub ignored : (d : Device) (e : Event) → EightChannels d → ((i : ℕ) → i < 8 → concerns i e ≡ false) → Ignored rates d e
  unfolding step
  ignored d e four out =
      record {
        device = none_move rates d e four (clock_stays e 0 d.clock (untouched 0 (lit< tt))) untouched;
        reply = λ d'. by d' (speaker e) refl;
      }
    where
      untouched : (i : ℕ) → i < 8 → touches e i ≡ false
      untouched i k = touches_concerned i e ∙ out i k

      by : (d' : Device) (s : Option ℕ) → speaker e ≡ s → answer rates d e ≡ answer rates d' e
      by d' none q = answer_own rates d e q ∙ sym (answer_own rates d' e q)
      by d' (some j) q = absurd (true≢false (sym (speaker_only e j q j ∙ eq-eqb j j refl) ∙ untouched j (speaker_eight e j q)))

  -- ---- the exchange

  -- an event that does not concern channel i can be left out before another, or come after it, for channel i
  swapped_at : (i : ℕ) → i < 8 → (d : Device) (e e' : Event) → EightChannels d → concerns i e ≡ false
      → any_at i (after rates (after rates d e) e') ≡ any_at i (after rates (after rates d e') e)
  unfolding step
  swapped_at i k d e e' w h =
      (stepped i k (after rates d e) d e' (passed i k d d e h (record { clock = refl; chan = refl; here = w; there = w }))).chan
      ∙ sym (chan_stays rates (after rates d e') e i (channels_kept rates d e' w) k (touches_concerned i e ∙ h))

  swapped_clock : (t : ℕ) (e e' : Event) → concerns 0 e ≡ false → clock_after (clock_after t e) e' ≡ clock_after (clock_after t e') e
  swapped_clock t e e' h =
      let still : (u : ℕ) → clock_after u e ≡ u = λ u. clock_stays e 0 u (touches_concerned 0 e ∙ h) in
      ap (λ (u : ℕ). clock_after u e') (still t) ∙ sym (still (clock_after t e'))

  swapped_device : (d : Device) (e e' : Event) → EightChannels d → Apart e e' → after rates (after rates d e) e' ≡ after rates (after rates d e') e
  unfolding after
  swapped_device d e e' w h =
      same_places (channels_kept rates (after rates d e) e' (channels_kept rates d e w)) (channels_kept rates (after rates d e') e (channels_kept rates d e' w))
      (⊎_elim (swapped_clock d.clock e e') (λ q. sym (swapped_clock d.clock e' e q)) (one_is_out 0 (lit< tt) e e' h))
      (λ i k. ⊎_elim (swapped_at i k d e e' w) (λ q. sym (swapped_at i k d e' e w q)) (one_is_out i k e e' h))

  -- an event is answered as if another that is apart from it had not come before
  swapped_answer : (d : Device) (e e' : Event) → EightChannels d → Apart e e' → answer rates (after rates d e') e ≡ answer rates d e
  unfolding after
  swapped_answer d e e' w h = by (speaker e) refl
    where
      by : (s : Option ℕ) → speaker e ≡ s → answer rates (after rates d e') e ≡ answer rates d e
      by none q = answer_own rates (after rates d e') e q ∙ sym (answer_own rates d e q)
      by (some j) q =
          let own : concerns j e ≡ true = sym (touches_concerned j e) ∙ speaker_only e j q j ∙ eq-eqb j j refl in
          let out : touches e' j ≡ false = touches_concerned j e' ∙ other_is_out j (speaker_eight e j q) e e' h own in
          answer_spoken rates (after rates d e') e j q
          ∙ ap₂ (λ (t : ℕ) (c : Any). (any_step rates t c e).1) (clock_stays e' j d.clock out) (chan_stays rates d e' j w (speaker_eight e j q) out)
          ∙ sym (answer_spoken rates d e j q)

  -- DEMAND 3, exchange. Two neighbouring events that concern no channel both change places, anywhere in a sequence and from any device: the
  -- whole device ends the same, and each event gets the same answer
  pub exchange : (d : Device) (xs : List Event) (e e' : Event) (ys : List Event) → EightChannels d → Apart e e' → Exchanged rates d xs e e' ys
  unfolding run answers step
  exchange d [] e e' ys four h =
      let same = swapped_device d e e' four h in
      let rest = answers rates (after rates (after rates d e) e') ys in
      record {
        device = ap (λ (x : Device). run rates x ys) same;
        to_e = answer rates d e;
        to_e' = answer rates d e';
        to_ys = rest;
        one_way = ap (λ (a : Answer). answer rates d e ∷ a ∷ rest) (swapped_answer d e' e four (λ i k t t'. h i k t' t));
        other_way = ap₂ {C = List Answer} (λ (a : Answer) (x : Device). answer rates d e' ∷ a ∷ answers rates x ys) (swapped_answer d e e' four h) (sym same);
      }
  exchange d (x ∷ xs) e e' ys four h =
      let q = exchange (after rates d x) xs e e' ys (channels_kept rates d x four) h in
      record {
        device = q.device;
        to_e = q.to_e;
        to_e' = q.to_e';
        to_ys = q.to_ys;
        one_way = ap (λ (r : List Answer). answer rates d x ∷ r) q.one_way;
        other_way = ap (λ (r : List Answer). answer rates d x ∷ r) q.other_way;
      }

  -- ---- arrangements

  -- DEMAND 3, arrangements. Any two sequences that leave each of the eight channels the same events, in the same order, when the others' are
  -- struck out, end in the same device, and each channel receives the same answers. The sequences may hold frames, advances and closes too
  pub arranged : (d : Device) (es zs : List Event) → EightChannels d → SameToEach es zs → Arranged rates d es zs
  arranged d es zs w same =
      record {
        device = same_places (run_channels_kept rates d es w) (run_channels_kept rates d zs w) (clock 0 (lit< tt)) chan;
        receives = λ i k. (part i k es).receives ∙ ap (answers rates d) (same i k) ∙ sym (part i k zs).receives;
      }
    where
      part : (i : ℕ) → i < 8 → (es : List Event) → Projected rates i d d es
      part i k es = projection_from i k es d w

      clock : (i : ℕ) → i < 8 → (run rates d es).clock ≡ (run rates d zs).clock
      clock i k = (part i k es).ends.clock ∙ ap (λ (l : List Event). (run rates d l).clock) (same i k) ∙ sym (part i k zs).ends.clock

      chan : (i : ℕ) → i < 8 → any_at i (run rates d es) ≡ any_at i (run rates d zs)
      chan i k = (part i k es).ends.chan ∙ ap (λ (l : List Event). any_at i (run rates d l)) (same i k) ∙ sym (part i k zs).ends.chan

-- ---- events that name different channels are apart

-- an event that names a channel concerns no other
only_named : (e : Event) (i j : ℕ) → ((j : ℕ) → touches e j ≡ eqb i j) → T (concerns j e) → i + 1 ≡ j + 1
only_named e i j only t = ap (λ (n : ℕ). n + 1) (eqb→eq i j (subst T (sym (touches_concerned j e) ∙ only j) t))

called : (k : ℕ) (x : Call) (i : ℕ) → T (concerns i (call k x)) → k ≡ i + 1
unfolding concerns
called k x i t = eqb→eq k (i + 1) (left (eqb k (i + 1)) (names x k) t)

named : {e : Event} {k : ℕ} (i : ℕ) → Names e k → T (concerns i e) → k ≡ i + 1
named i (by_call {k = k} {x = x} h) t = called k x i t
named i (by_raw {l = l} {f = f} {r = r} h) t = only_named (connect l 5 f r) l i (raw_only_law l f r h) t
named i (by_iso {l = l} {f = f} {r = r} h) t = omega (arith, only_named (connect l 6 f r) (l + 4) i (iso_only l f r) t)

-- DEMAND 3. Two events that name different channels are apart
pub different_apart : {e e' : Event} {k k' : ℕ} → Names e k → Names e' k' → k ≢ k' → Apart e e'
different_apart n n' h i k t t' = h (named i n t ∙ sym (named i n' t'))

-- so are two calls of different numbers, whether they name a channel or none
pub calls_apart : (k k' : ℕ) (x x' : Call) → k ≢ k' → Apart (call k x) (call k' x')
calls_apart k k' x x' h i j t t' = h (called k x i t ∙ sym (called k' x' i t'))

-- DEMAND 3, exchange, for neighbours that name different channels
pub different_exchange : (rates : List ℕ) (d : Device) (xs : List Event) (ys : List Event) {e e' : Event} {k k' : ℕ} → EightChannels d
    → Names e k → Names e' k' → k ≢ k' → Exchanged rates d xs e e' ys
different_exchange rates d xs ys {e} {e'} w n n' h = exchange rates d xs e e' ys w (different_apart n n' h)
