-- TWO ARRANGEMENTS of the same events, each channel's in its own order, end in the same device and give each event the same answer. What a channel does
-- with an event is nowhere looked into. Assumes nothing.
use Rattle.std.specs.Prelude.{if◌then◌else◌}
use Prim.Native.Nat.{ℕ, ◌<◌}
use mathlib.Core.Path.{◌≡◌, refl, sym, ap, ◌∙◌, subst}
use mathlib.Core.Bool.{Bool, true, false, true≢false}
use mathlib.Core.Option.{none, some}
use mathlib.Core.List.{List, [], ◌∷◌, cons≢nil, head-eq_of_cons-eq}
use lib.Dec.{eqb}
use Rattle.machine.specs.Step.{Event}
use Rattle.whole.specs.Device.{Device, channels, power_on, step, run, answers}
use Rattle.whole.specs.Demands.{EightChannels, concerns, strike, answers_of, Alike, SameToEach}
use Rattle.whole.proofs.Dispatch.{channels_kept}
use Rattle.whole.proofs.Isolation.{projection, ignored, arranged}
use Rattle.shifts.specs.Shifts.{Numbered, events, keep, with_number, of_channel, nobodys, Arrangement, to_number, answer_to, SameEnd}
use Rattle.shifts.proofs.Keep.{keep_yes, keep_no, channel_strike, nobodys_none, Concerned, somebodys}

-- an arrangement leaves each channel the same events in the same order
pub same_to_each : (cs zs : List Numbered) → Arrangement cs zs → SameToEach (events zs) (events cs)
same_to_each cs zs r i k = sym (channel_strike i zs) ∙ ap events (r.order i k) ∙ channel_strike i cs

-- ---- the first event with a number

module _ (n : ℕ) (c : Numbered) (cs : List Numbered) where
  pub number_yes : eqb c.0 n ≡ true → with_number n (c ∷ cs) ≡ c ∷ with_number n cs
  unfolding with_number
  number_yes h = keep_yes (λ x. eqb x.0 n) c cs h

  pub number_no : eqb c.0 n ≡ false → with_number n (c ∷ cs) ≡ with_number n cs
  unfolding with_number
  number_no h = keep_no (λ x. eqb x.0 n) c cs h

-- ---- the answer to it

module _ (rates : List ℕ) where
  answer_yes : (d : Device) (n : ℕ) (c : Numbered) (cs : List Numbered) → eqb c.0 n ≡ true → answer_to rates d (c ∷ cs) n ≡ some (step rates d c.1).1
  unfolding answer_to to_number events answers
  answer_yes d n c cs h = ap (λ (b : Bool). if b then some (step rates d c.1).1 else answer_to rates (step rates d c.1).0 cs n) h

  answer_no : (d : Device) (n : ℕ) (c : Numbered) (cs : List Numbered) → eqb c.0 n ≡ false → answer_to rates d (c ∷ cs) n ≡ answer_to rates (step rates d c.1).0 cs n
  unfolding answer_to to_number events answers
  answer_no d n c cs h = ap (λ (b : Bool). if b then some (step rates d c.1).1 else answer_to rates (step rates d c.1).0 cs n) h

  -- where none has the number
  nobody_there : (n : ℕ) (cs : List Numbered) (d : Device) → with_number n cs ≡ [] → answer_to rates d cs n ≡ none
  unfolding answer_to to_number events
  nobody_there n [] d h = refl
  nobody_there n (c ∷ cs) d h = by (eqb c.0 n) refl (nobody_there n cs)
    where
      by : (b : Bool) → eqb c.0 n ≡ b → ((d : Device) → with_number n cs ≡ [] → answer_to rates d cs n ≡ none) → answer_to rates d (c ∷ cs) n ≡ none
      by true q more = absurd (cons≢nil (sym (number_yes n c cs q) ∙ h))
      by false q more = answer_no d n c cs q ∙ more (step rates d c.1).0 (sym (number_no n c cs q) ∙ h)

  -- one that concerns no channel is answered the same whatever stands around it
  nobodys_answer : (n : ℕ) (e : Numbered) (more : List Numbered) → nobodys e.1 ≡ true → (cs : List Numbered) (d : Device) → EightChannels d
      → with_number n cs ≡ e ∷ more → answer_to rates d cs n ≡ some (step rates power_on e.1).1
  unfolding with_number keep step
  nobodys_answer n e more out [] d w h = absurd (cons≢nil (sym h))
  nobodys_answer n e more out (c ∷ cs) d w h = by (eqb c.0 n) refl (nobodys_answer n e more out cs)
    where
      by : (b : Bool) → eqb c.0 n ≡ b
          → ((d : Device) → EightChannels d → with_number n cs ≡ e ∷ more → answer_to rates d cs n ≡ some (step rates power_on e.1).1)
          → answer_to rates d (c ∷ cs) n ≡ some (step rates power_on e.1).1
      by true q rest =
          let it : c ≡ e = head-eq_of_cons-eq (sym (number_yes n c cs q) ∙ h) in
          answer_yes d n c cs q
          ∙ ap (λ (x : Numbered). some (step rates d x.1).1) it
          ∙ ap some ((ignored rates d e.1 w (nobodys_none e.1 out)).reply power_on)
      by false q rest = answer_no d n c cs q ∙ rest (step rates d c.1).0 (channels_kept rates d c.1 w) (sym (number_no n c cs q) ∙ h)

  -- ---- one step, from two devices that show channel i the same

  module _ (i : ℕ) (k : i < channels) (d d' : Device) (e : Event) (a : Alike i d d') where
    -- both step
    both_step : concerns i e ≡ true → Alike i (step rates d e).0 (step rates d' e).0
    unfolding run strike
    both_step h = subst (λ (b : Bool). Alike i (step rates d e).0 (run rates d' (if b then e ∷ [] else []))) h (projection rates i k (e ∷ []) d d' a).ends

    -- one steps alone
    one_steps : concerns i e ≡ false → Alike i (step rates d e).0 d'
    unfolding run strike
    one_steps h = subst (λ (b : Bool). Alike i (step rates d e).0 (run rates d' (if b then e ∷ [] else []))) h (projection rates i k (e ∷ []) d d' a).ends

    same_answer : concerns i e ≡ true → (step rates d e).1 ≡ (step rates d' e).1
    unfolding strike answers_of answers
    same_answer h =
        head-eq_of_cons-eq
        (subst (λ (b : Bool). (if b then (step rates d e).1 ∷ [] else []) ≡ answers rates d' (if b then e ∷ [] else [])) h (projection rates i k (e ∷ []) d d' a).receives)

  -- one that concerns channel i is answered as if that channel's events were all
  channels_answer : (i : ℕ) → i < channels → (n : ℕ) (e : Numbered) (more : List Numbered) → concerns i e.1 ≡ true → (cs : List Numbered) (d d' : Device) → Alike i d d'
      → with_number n cs ≡ e ∷ more → answer_to rates d cs n ≡ answer_to rates d' (of_channel i cs) n
  unfolding with_number keep of_channel
  channels_answer i k n e more mine [] d d' a h = absurd (cons≢nil (sym h))
  channels_answer i k n e more mine (c ∷ cs) d d' a h = by (eqb c.0 n) refl (concerns i c.1) refl (channels_answer i k n e more mine cs)
    where
      by : (b : Bool) → eqb c.0 n ≡ b → (b' : Bool) → concerns i c.1 ≡ b'
          → ((d d' : Device) → Alike i d d' → with_number n cs ≡ e ∷ more → answer_to rates d cs n ≡ answer_to rates d' (of_channel i cs) n)
          → answer_to rates d (c ∷ cs) n ≡ answer_to rates d' (if b' then c ∷ of_channel i cs else of_channel i cs) n
      by true q true x rest = answer_yes d n c cs q ∙ ap some (same_answer i k d d' c.1 a x) ∙ sym (answer_yes d' n c (of_channel i cs) q)
      by true q false x rest =
          let it : c ≡ e = head-eq_of_cons-eq (sym (number_yes n c cs q) ∙ h) in
          absurd (true≢false (sym mine ∙ sym (ap (λ (y : Numbered). concerns i y.1) it) ∙ x))
      by false q true x rest =
          answer_no d n c cs q
          ∙ rest (step rates d c.1).0 (step rates d' c.1).0 (both_step i k d d' c.1 a x) (sym (number_no n c cs q) ∙ h)
          ∙ sym (answer_no d' n c (of_channel i cs) q)
      by false q false x rest = answer_no d n c cs q ∙ rest (step rates d c.1).0 d' (one_steps i k d d' c.1 a x) (sym (number_no n c cs q) ∙ h)

  -- ---- two arrangements

  module _ (d : Device) (w : EightChannels d) (cs zs : List Numbered) (r : Arrangement cs zs) where
    each_answer : (n : ℕ) → answer_to rates d zs n ≡ answer_to rates d cs n
    each_answer n = by (with_number n cs) refl
      where
        alike : (i : ℕ) → Alike i d d
        alike i = record { clock = refl; chan = refl; here = w; there = w }

        of_somebody : (e : Numbered) (more : List Numbered) → with_number n cs ≡ e ∷ more → Concerned channels e.1 → answer_to rates d zs n ≡ answer_to rates d cs n
        of_somebody e more h s =
            channels_answer s.place s.low n e more s.it zs d d (alike s.place) (r.each n ∙ h)
            ∙ ap (λ (l : List Numbered). answer_to rates d l n) (r.order s.place s.low)
            ∙ sym (channels_answer s.place s.low n e more s.it cs d d (alike s.place) h)

        of_event : (e : Numbered) (more : List Numbered) → with_number n cs ≡ e ∷ more → (b : Bool) → nobodys e.1 ≡ b → answer_to rates d zs n ≡ answer_to rates d cs n
        of_event e more h true q = nobodys_answer n e more q zs d w (r.each n ∙ h) ∙ sym (nobodys_answer n e more q cs d w h)
        of_event e more h false q = of_somebody e more h (somebodys e.1 q)

        by : (l : List Numbered) → with_number n cs ≡ l → answer_to rates d zs n ≡ answer_to rates d cs n
        by [] h = nobody_there n zs d (r.each n ∙ h) ∙ sym (nobody_there n cs d h)
        by (e ∷ more) h = of_event e more h (nobodys e.1) refl

    -- AN ARRANGEMENT ends in the same device and gives each event the same answer. The events may be any: frames, advances and closes too
    pub same_end : SameEnd rates d zs cs
    same_end = record { device = (arranged rates d (events zs) (events cs) w (same_to_each cs zs r)).device; answer = each_answer }
