-- Laws of the step of `specs/Device.antt`, for any set of rates: which channels an event touches, who answers, what becomes of each channel and of the
-- device. They unfold the dispatcher and never what a channel does. Assumes nothing.
use Rattle.std.specs.Prelude.{if◌then◌else◌}
use Prim.Native.Nat.{ℕ, zero, suc, ◌+◌, ◌-◌, ◌≤◌, ◌<◌}
use mathlib.Core.Path.{◌≡◌, refl, sym, ap, ap₂, ◌∙◌, subst}
use mathlib.Core.Bool.{Bool, true, false, true≢false, not, ◌&&◌, ◌||◌, and-true, and-false}
use mathlib.Core.Option.{Option, none, some}
use mathlib.Core.List.{List, [], ◌∷◌, ◌++◌, map}
use native.Mathlib.Nat.{not-suc-le-zero, le_of_suc-le-suc}
use native.Mathlib.Numerals.{add-one}
use native.Mathlib.Omega.{arith}
use borrow.Author.Tests.{eqb-true, eqb-false, eq-eqb, ne_eqb, lt-ltb, le-ltb, ltb-true, ltb-false}
use lib.ListN.{length, get_or, set, length-set}
use lib.Seq.{get_or-set_same, get_or-set_other, set-get_or, set_out, ext_get_or}
use lib.Dec.{eqb, leb, ltb, T, ltb→lt, eqb-suc-suc}
use Rattle.codec.proofs.Tests.{left, right, true_T, T_true, T_false, within_low, within_high, between}
use Rattle.codec.specs.Plain.{within}
use Rattle.machine.specs.Channel.{Chan, closed, Call, raw_only, Answer, says, lent, Outcome, on_call, on_connect, noted, noted_in_use, on_frame, on_advance}
use Rattle.iso.specs.Iso.{Iso, shut, on_iso_call, on_iso_connect, on_iso_frame, on_iso_advance, iso_noted, iso_noted_in_use}
use Rattle.iso.specs.Step.{iso_step}
use Rattle.whole.specs.Demands.{EightChannels, names, concerns, with_any}
use Rattle.machine.specs.Step.{Event, connect, call, frame, advance, close, chan_step, clock_after}
use Rattle.machine.specs.Step as raw_step
use Rattle.whole.specs.Device.{Device, Any, raw, iso, chan_at, iso_at, any_at, line_of, protocol_at, nameable, connected, numbered, touches, speaker, own_answer, any_step, moved, after, answer_by, answer, step, run, answers}

-- ---- which channels an event touches

-- the line of a place from 4 on, seen from the line
line_iso : (l i : ℕ) → 4 ≤ i → eqb l (i - 4) ≡ eqb (l + 4) i
line_iso l i h = by (eqb l (i - 4)) refl
  where
    by : (b : Bool) → eqb l (i - 4) ≡ b → eqb l (i - 4) ≡ eqb (l + 4) i
    by true q = q ∙ sym (eq-eqb (l + 4) i (omega (arith, eqb-true l (i - 4) q)))
    by false q = q ∙ sym (ne_eqb (l + 4) i (λ e. eqb-false l (i - 4) q (omega arith)))

-- a number that names a place, seen from the place
place_named : (k i : ℕ) (x : Call) → (eqb k (i + 1) && nameable x i) ≡ (eqb k (i + 1) && names x k)
unfolding nameable names
place_named k i x = by (eqb k (i + 1)) refl (raw_only x)
  where
    four : k ≡ i + 1 → (b : Bool) → ltb i 4 ≡ b → ltb i 4 ≡ within 1 4 k
    four e true q = let h = ltb-true i 4 q in q ∙ sym (between 1 4 k (omega arith) (omega arith))
    four e false q = let h = ltb-false i 4 q in q ∙ sym (T_false (within 1 4 k) (λ t. let hi = within_high 1 4 k t in omega arith))

    by : (b : Bool) → eqb k (i + 1) ≡ b → (r : Bool) → (b && (not r || ltb i 4)) ≡ (b && (if r then within 1 4 k else true))
    by true q true = four (eqb-true k (i + 1) q) (ltb i 4) refl
    by true q false = refl
    by false q r = refl

-- an event touches exactly the channels that, by demand 3's words, it concerns
pub touches_concerned : (i : ℕ) (e : Event) → touches e i ≡ concerns i e
unfolding touches concerns line_of protocol_at
touches_concerned i (connect l p f r) = by (ltb i 4) refl
  where
    by : (b : Bool) → ltb i 4 ≡ b → (eqb l (if b then i else i - 4) && eqb p (if b then 5 else 6)) ≡ (if b then eqb l i && eqb p 5 else eqb (l + 4) i && eqb p 6)
    by true q = refl
    by false q = ap (λ (b : Bool). b && eqb p 6) (line_iso l i (ltb-false i 4 q))
touches_concerned i (call k x) = place_named k i x
touches_concerned i (frame l w n b) = by (ltb i 4) refl
  where
    by : (g : Bool) → ltb i 4 ≡ g → eqb l (if g then i else i - 4) ≡ (if g then eqb l i else eqb (l + 4) i)
    by true q = refl
    by false q = line_iso l i (ltb-false i 4 q)
touches_concerned i (advance t) = refl
touches_concerned i close = refl

-- the event touches the channel at place i and no other
abbrev pub Only : Event → ℕ → Type 0
Only e i = (j : ℕ) → touches e j ≡ eqb i j

-- a connect touches the channel of its line and protocol, a call that of its number
pub raw_only_law : (l f r : ℕ) → l < 4 → Only (connect l 5 f r) l
unfolding touches line_of protocol_at
raw_only_law l f r h j = by (ltb j 4) refl
  where
    by : (b : Bool) → ltb j 4 ≡ b → (eqb l (if b then j else j - 4) && eqb 5 (if b then 5 else 6)) ≡ eqb l j
    by true q = and-true (eqb l j)
    by false q = and-false (eqb l (j - 4)) ∙ sym (ne_eqb l j (λ e. omega (arith, ltb-false j 4 q)))

pub iso_only : (l f r : ℕ) → Only (connect l 6 f r) (l + 4)
unfolding touches line_of protocol_at
iso_only l f r j = by (ltb j 4) refl
  where
    by : (b : Bool) → ltb j 4 ≡ b → (eqb l (if b then j else j - 4) && eqb 6 (if b then 5 else 6)) ≡ eqb (l + 4) j
    by true q = and-false (eqb l j) ∙ sym (ne_eqb (l + 4) j (λ e. omega (arith, ltb-true j 4 q)))
    by false q = and-true (eqb l (j - 4)) ∙ line_iso l j (ltb-false j 4 q)

number_only : (i j : ℕ) → eqb (i + 1) (j + 1) ≡ eqb i j
number_only i j = rw (add-one i, add-one j, eqb-suc-suc)

pub call_only : (i : ℕ) (x : Call) → nameable x i ≡ true → Only (call (i + 1) x) i
unfolding touches
call_only i x t j = ap (λ (b : Bool). b && nameable x j) (number_only i j) ∙ by (eqb i j) refl
  where
    by : (b : Bool) → eqb i j ≡ b → (b && nameable x j) ≡ b
    by true q = ap (nameable x) (sym (eqb-true i j q)) ∙ t
    by false q = refl

-- every call can name the places below 4; one that does not take the number of a raw channel can name all
pub raw_nameable : (x : Call) (i : ℕ) → i < 4 → nameable x i ≡ true
unfolding nameable
raw_nameable x i h = by (raw_only x)
  where
    by : (b : Bool) → (not b || ltb i 4) ≡ true
    by true = lt-ltb i 4 h
    by false = refl

pub all_nameable : (x : Call) (i : ℕ) → raw_only x ≡ false → nameable x i ≡ true
unfolding nameable
all_nameable x i h = rw h

-- one that does can name none from 4 on
pub iso_unnamed : (x : Call) (i : ℕ) → raw_only x ≡ true → 4 ≤ i → nameable x i ≡ false
unfolding nameable
iso_unnamed x i h k = rw h (le-ltb i 4 k)

-- an event that leaves some channel alone leaves the clock
pub clock_stays : (e : Event) (i now : ℕ) → touches e i ≡ false → clock_after now e ≡ now
unfolding touches clock_after
clock_stays (connect l p f r) i now h = refl
clock_stays (call k x) i now h = refl
clock_stays (frame l w n b) i now h = refl
clock_stays (advance t) i now h = absurd (true≢false h)
clock_stays close i now h = refl

-- ---- who answers

no_place : {i : ℕ} → ◌≡◌ {A = Option ℕ} none (some i) → ⊥
no_place h = let z : ◌≡◌ {A = ℕ} 0 1 = cc in omega arith

-- the place of a number is one less, of the numbers 1 to 8 and where the call can name it
record Numbered (x : Call) (k i : ℕ) : Type 0 where
  is : k ≡ i + 1
  eight : i < 8
  may : nameable x i ≡ true

numbered_is : (x : Call) (k i : ℕ) → numbered x k ≡ some i → Numbered x k i
unfolding numbered
numbered_is x k i h = by (within 1 8 k && nameable x (k - 1)) refl h
  where
    by : (b : Bool) → (within 1 8 k && nameable x (k - 1)) ≡ b → (if b then some (k - 1) else none) ≡ some i → Numbered x k i
    by true q e =
        let t : T (within 1 8 k && nameable x (k - 1)) = true_T _ q in
        let in_eight : T (within 1 8 k) = left (within 1 8 k) (nameable x (k - 1)) t in
        let lo = within_low 1 8 k in_eight in
        let hi = within_high 1 8 k in_eight in
        let same : k - 1 ≡ i = cc in
        record { is = omega arith; eight = omega arith; may = ap (nameable x) (sym same) ∙ T_true (nameable x (k - 1)) (right (within 1 8 k) (nameable x (k - 1)) t) }
    by false q e = absurd (no_place e)

-- a connect that names a place is one of line below 4 with protocol 5 or 6
pub data Connected (l : ℕ) : ℕ → ℕ → Type 0 where
  to_raw : l < 4 → Connected l 5 l
  to_iso : l < 4 → Connected l 6 (l + 4)

pub connected_is : (l p i : ℕ) → connected l p ≡ some i → Connected l p i
unfolding connected
connected_is l p i h = by (ltb l 4) refl h
  where
    iso_by : l < 4 → (b : Bool) → eqb p 6 ≡ b → (if b then some (l + 4) else none) ≡ some i → Connected l p i
    iso_by k true q e =
        let same : l + 4 ≡ i = cc in
        subst (λ (p : ℕ). Connected l p i) (sym (eqb-true p 6 q)) (subst (Connected l 6) same (to_iso k))
    iso_by k false q e = absurd (no_place e)

    raw_by : l < 4 → (b : Bool) → eqb p 5 ≡ b → (if b then some l else if eqb p 6 then some (l + 4) else none) ≡ some i → Connected l p i
    raw_by k true q e =
        let same : l ≡ i = cc in
        subst (λ (p : ℕ). Connected l p i) (sym (eqb-true p 5 q)) (subst (Connected l 5) same (to_raw k))
    raw_by k false q e = iso_by k (eqb p 6) refl e

    by : (b : Bool) → ltb l 4 ≡ b → (if b then (if eqb p 5 then some l else if eqb p 6 then some (l + 4) else none) else none) ≡ some i → Connected l p i
    by true q e = raw_by (ltb-true l 4 q) (eqb p 5) refl e
    by false q e = absurd (no_place e)

connected_only : {l p i : ℕ} → Connected l p i → (f r : ℕ) → Only (connect l p f r) i
connected_only {l = l} (to_raw h) f r = raw_only_law l f r h
connected_only {l = l} (to_iso h) f r = iso_only l f r

connected_eight : {l p i : ℕ} → Connected l p i → i < 8
connected_eight (to_raw h) = omega arith
connected_eight (to_iso h) = omega arith

-- a connect that touches one of the eight names it
both_true : (a b : Bool) → (a && b) ≡ true → (a ≡ true) × (b ≡ true)
both_true true true h = (refl, refl)
both_true true false h = absurd (true≢false (sym h))
both_true false b h = absurd (true≢false (sym h))

connected_raw : (l : ℕ) → l < 4 → connected l 5 ≡ some l
unfolding connected
connected_raw l h = rw (lt-ltb l 4 h)

connected_iso : (l : ℕ) → l < 4 → connected l 6 ≡ some (l + 4)
unfolding connected
connected_iso l h = rw (lt-ltb l 4 h)

pub touched_connected : (l p f r i : ℕ) → i < 8 → touches (connect l p f r) i ≡ true → connected l p ≡ some i
unfolding touches line_of protocol_at
touched_connected l p f r i h t = by (ltb i 4) refl t
  where
    by : (b : Bool) → ltb i 4 ≡ b → (eqb l (if b then i else i - 4) && eqb p (if b then 5 else 6)) ≡ true → connected l p ≡ some i
    by true q e =
        let s = both_true (eqb l i) (eqb p 5) e in
        let line : l ≡ i = eqb-true l i s.0 in
        ap₂ {C = Option ℕ} (λ (x y : ℕ). connected x y) line (eqb-true p 5 s.1) ∙ connected_raw i (ltb-true i 4 q)
    by false q e =
        let s = both_true (eqb l (i - 4)) (eqb p 6) e in
        let line : l ≡ i - 4 = eqb-true l (i - 4) s.0 in
        let lo : 4 ≤ i = ltb-false i 4 q in
        let back : i - 4 + 4 ≡ i = omega arith in
        ap₂ {C = Option ℕ} (λ (x y : ℕ). connected x y) line (eqb-true p 6 s.1) ∙ connected_iso (i - 4) (omega arith) ∙ ap {B = Option ℕ} some back

-- a channel that answers is the only one touched
pub speaker_only : (e : Event) (i : ℕ) → speaker e ≡ some i → Only e i
unfolding speaker
speaker_only (connect l p f r) i h = connected_only (connected_is l p i h) f r
speaker_only (call k x) i h = let n = numbered_is x k i h in subst (λ (n : ℕ). Only (call n x) i) (sym n.is) (call_only i x n.may)
speaker_only (frame l w n b) i h = absurd (no_place h)
speaker_only (advance t) i h = absurd (no_place h)
speaker_only close i h = absurd (no_place h)

-- it is one of the eight
pub speaker_eight : (e : Event) (i : ℕ) → speaker e ≡ some i → i < 8
unfolding speaker
speaker_eight (connect l p f r) i h = connected_eight (connected_is l p i h)
speaker_eight (call k x) i h = (numbered_is x k i h).eight
speaker_eight (frame l w n b) i h = absurd (no_place h)
speaker_eight (advance t) i h = absurd (no_place h)
speaker_eight close i h = absurd (no_place h)

-- a call whose number is 1 to 8, and which can name it, is answered by its channel
pub number_place : (x : Call) (i : ℕ) → i < 8 → nameable x i ≡ true → numbered x (i + 1) ≡ some i
unfolding numbered
number_place x i h t =
    let back : i + 1 - 1 ≡ i = omega arith in
    let may : nameable x (i + 1 - 1) ≡ true = ap (nameable x) back ∙ t in
    rw (between 1 8 (i + 1) (omega arith) (omega arith), may) (ap {B = Option ℕ} some back)

pub call_heard : (k : ℕ) (x : Call) → (within 1 8 k && nameable x (k - 1)) ≡ true → speaker (call k x) ≡ some (k - 1)
unfolding speaker numbered
call_heard k x h = rw h

-- ---- places that move

module _ {C : Type 0} (t : ℕ → Bool) (f : C → C) where
  pub moved_at : (x : C) (j : ℕ) (cs : List C) (i n : ℕ) → i < length cs → j + i ≡ n
      → get_or (moved t f j cs) i x ≡ (if t n then f (get_or cs i x) else get_or cs i x)
  unfolding moved
  moved_at x j [] i n h q = absurd (not-suc-le-zero h)
  moved_at x j (c ∷ cs) zero n h q = let same : j ≡ n = omega arith in rw same
  moved_at x j (c ∷ cs) (suc i) n h q = moved_at x (suc j) cs i n (le_of_suc-le-suc h) (omega arith)

  pub moved_length : (j : ℕ) (cs : List C) → length (moved t f j cs) ≡ length cs
  unfolding moved
  moved_length j [] = refl
  moved_length j (c ∷ cs) = ap suc (moved_length (suc j) cs)

  -- all of them, one of them, none of them
  pub moved_all : ((n : ℕ) → t n ≡ true) → (j : ℕ) (cs : List C) → moved t f j cs ≡ map f cs
  unfolding moved
  moved_all every j [] = refl
  moved_all every j (c ∷ cs) = rw (every j) (ap (λ (r : List C). f c ∷ r) (moved_all every (suc j) cs))

  pub moved_one : (x : C) (j : ℕ) (cs : List C) (k : ℕ) → ((i : ℕ) → i < length cs → t (j + i) ≡ eqb k i) → moved t f j cs ≡ set cs k (f (get_or cs k x))
  moved_one x j cs k only =
      ext_get_or x (moved t f j cs) (set cs k (f (get_or cs k x))) (moved_length j cs ∙ sym (length-set cs k (f (get_or cs k x))))
      (λ i h. by i (subst (λ (n : ℕ). i < n) (moved_length j cs) h) (eqb k i) refl)
    where
      choose : (i : ℕ) (b : Bool) → t (j + i) ≡ b → (if t (j + i) then f (get_or cs i x) else get_or cs i x) ≡ (if b then f (get_or cs i x) else get_or cs i x)
      choose i b q = rw q

      by : (i : ℕ) → i < length cs → (b : Bool) → eqb k i ≡ b → get_or (moved t f j cs) i x ≡ get_or (set cs k (f (get_or cs k x))) i x
      by i h true q =
          let here : k ≡ i = eqb-true k i q in
          let own : k < length cs = omega arith in
          moved_at x j cs i (j + i) h refl ∙ choose i true (only i h ∙ q)
          ∙ subst (λ (n : ℕ). f (get_or cs n x) ≡ get_or (set cs k (f (get_or cs k x))) n x) here (sym (get_or-set_same cs k (f (get_or cs k x)) x own))
      by i h false q =
          moved_at x j cs i (j + i) h refl ∙ choose i false (only i h ∙ q)
          ∙ sym (get_or-set_other cs k i (f (get_or cs k x)) x (λ s. eqb-false k i q (sym s)))

  pub moved_none : (x : C) (j : ℕ) (cs : List C) → ((i : ℕ) → i < length cs → t (j + i) ≡ false) → moved t f j cs ≡ cs
  moved_none x j cs out =
      moved_one x j cs (length cs) (λ i h. out i h ∙ sym (ne_eqb (length cs) i (λ q. omega arith))) ∙ set_out cs (length cs) _ (omega arith)

-- ---- devices

-- equal clocks and channels make equal devices
pub same_device : {d d' : Device} → d.clock ≡ d'.clock → d.chans ≡ d'.chans → d.isos ≡ d'.isos → d ≡ d'
same_device p q r = λ j. record { clock = p j; chans = q j; isos = r j }

-- the device with another raw channel at a line, another ISO 15765 channel, both
abbrev pub with_chan : ℕ → Chan → Device → Device
with_chan line c d = record { clock = d.clock; chans = set d.chans line c; isos = d.isos }

abbrev pub with_iso : ℕ → Iso → Device → Device
with_iso line c d = record { clock = d.clock; chans = d.chans; isos = set d.isos line c }

abbrev pub with_line : ℕ → Chan → Iso → Device → Device
with_line line c z d = record { clock = d.clock; chans = set d.chans line c; isos = set d.isos line z }

-- nothing changes with the channels that are there, nor with channels at a line past the last
pub with_chan_same : (line : ℕ) (d : Device) → with_chan line (chan_at line d) d ≡ d
unfolding chan_at
with_chan_same line d = same_device refl (set-get_or d.chans line closed) refl

pub with_iso_same : (line : ℕ) (d : Device) → with_iso line (iso_at line d) d ≡ d
unfolding iso_at
with_iso_same line d = same_device refl refl (set-get_or d.isos line shut)

pub with_line_same : (line : ℕ) (d : Device) → with_line line (chan_at line d) (iso_at line d) d ≡ d
unfolding chan_at iso_at
with_line_same line d = same_device refl (set-get_or d.chans line closed) (set-get_or d.isos line shut)

pub with_line_beyond : (line : ℕ) (c : Chan) (z : Iso) (d : Device) → length d.chans ≤ line → length d.isos ≤ line → with_line line c z d ≡ d
with_line_beyond line c z d out out' = same_device refl (set_out d.chans line c out) (set_out d.isos line z out')

pub with_any_same : (i : ℕ) (d : Device) → with_any i (any_at i d) d ≡ d
unfolding with_any any_at
with_any_same i d = by (ltb i 4)
  where
    by : (b : Bool) → with_any i (if b then raw (chan_at i d) else iso (iso_at (i - 4) d)) d ≡ d
    by true = with_chan_same i d
    by false = with_iso_same (i - 4) d

-- a place below 4 is a raw channel, one from 4 on an ISO 15765 channel
pub any_raw : (i : ℕ) (d : Device) → i < 4 → any_at i d ≡ raw (chan_at i d)
unfolding any_at
any_raw i d h = rw (lt-ltb i 4 h)

pub any_iso : (i : ℕ) (d : Device) → any_at (i + 4) d ≡ iso (iso_at i d)
unfolding any_at
any_iso i d = let back : i + 4 - 4 ≡ i = omega arith in rw (le-ltb (i + 4) 4 (omega arith), back)

-- what is under the kind
unraw : Any → Chan
unraw (raw c) = c
unraw (iso c) = closed

uniso : Any → Iso
uniso (raw c) = shut
uniso (iso c) = c

-- devices that show every channel the same are the same
pub same_places : {d d' : Device} → EightChannels d → EightChannels d' → d.clock ≡ d'.clock → ((i : ℕ) → i < 8 → any_at i d ≡ any_at i d') → d ≡ d'
unfolding chan_at iso_at unraw uniso
same_places {d} {d'} w w' clock same =
    same_device clock
    (ext_get_or closed d.chans d'.chans (w.raws ∙ sym w'.raws)
    (λ i h.
    let k : i < 4 = omega (arith, w.raws) in
    ap unraw (sym (any_raw i d k) ∙ same i (omega arith) ∙ any_raw i d' k)))
    (ext_get_or shut d.isos d'.isos (w.isos ∙ sym w'.isos)
    (λ i h. ap uniso (sym (any_iso i d) ∙ same (i + 4) (omega (arith, w.isos)) ∙ any_iso i d')))

module _ (rates : List ℕ) where
  -- ---- what becomes of the channels

  -- a step keeps the number of channels
  pub channels_kept : (d : Device) (e : Event) → EightChannels d → EightChannels (after rates d e)
  unfolding after
  channels_kept d e w = record { raws = moved_length _ _ 0 d.chans ∙ w.raws; isos = moved_length _ _ 4 d.isos ∙ w.isos }

  -- a channel after a step: its own step, at the clock, where the event touches it, else as it was
  pub chan_after : (d : Device) (e : Event) (i : ℕ) → EightChannels d → i < 8
      → any_at i (after rates d e) ≡ (if touches e i then (any_step rates d.clock (any_at i d) e).0 else any_at i d)
  unfolding after chan_at iso_at any_at any_step
  chan_after d e i w h = by (ltb i 4) refl
    where
      pull_raw : (b : Bool) (x y : Chan) → raw (if b then x else y) ≡ (if b then raw x else raw y)
      pull_raw true x y = refl
      pull_raw false x y = refl

      pull_iso : (b : Bool) (x y : Iso) → iso (if b then x else y) ≡ (if b then iso x else iso y)
      pull_iso true x y = refl
      pull_iso false x y = refl

      by : (b : Bool) → ltb i 4 ≡ b
          → (if b then raw (get_or (after rates d e).chans i closed) else iso (get_or (after rates d e).isos (i - 4) shut))
          ≡ (if touches e i then (any_step rates d.clock (if b then raw (get_or d.chans i closed) else iso (get_or d.isos (i - 4) shut)) e).0 else (if b then raw (get_or d.chans i closed) else iso (get_or d.isos (i - 4) shut)))
      by true q =
          let k : i < length d.chans = omega (arith, ltb-true i 4 q, w.raws) in
          ap raw (moved_at (touches e) (λ c. (chan_step rates d.clock c e).0) closed 0 d.chans i i k (omega arith))
          ∙ pull_raw (touches e i) (chan_step rates d.clock (get_or d.chans i closed) e).0 (get_or d.chans i closed)
      by false q =
          let lo : 4 ≤ i = ltb-false i 4 q in
          let k : i - 4 < length d.isos = omega (arith, w.isos) in
          ap iso (moved_at (touches e) (λ c. (iso_step rates d.clock c e).0) shut 4 d.isos (i - 4) i k (omega arith))
          ∙ pull_iso (touches e i) (iso_step rates d.clock (get_or d.isos (i - 4) shut) e).0 (get_or d.isos (i - 4) shut)

  -- one that it doesn't touch
  pub chan_stays : (d : Device) (e : Event) (i : ℕ) → EightChannels d → i < 8 → touches e i ≡ false → any_at i (after rates d e) ≡ any_at i d
  chan_stays d e i w h t = chan_after d e i w h ∙ rw t

  -- one that it touches
  pub chan_moves : (d : Device) (e : Event) (i : ℕ) → EightChannels d → i < 8 → touches e i ≡ true → any_at i (after rates d e) ≡ (any_step rates d.clock (any_at i d) e).0
  chan_moves d e i w h t = chan_after d e i w h ∙ rw t

  -- ---- what becomes of the device

  -- an event that touches one raw channel only, or one ISO 15765 channel only, puts that channel's step in its place
  pub after_raw : (d : Device) (e : Event) (i : ℕ) → EightChannels d → i < 4 → Only e i → after rates d e ≡ with_chan i (chan_step rates d.clock (chan_at i d) e).0 d
  unfolding after chan_at
  after_raw d e i w h only =
      same_device (clock_stays e (suc i) d.clock (only (suc i) ∙ ne_eqb i (suc i) (λ q. omega arith)))
      (moved_one (touches e) _ closed 0 d.chans i (λ j k. let same : 0 + j ≡ j = omega arith in subst (λ (n : ℕ). touches e n ≡ eqb i j) (sym same) (only j)))
      (moved_none (touches e) _ shut 4 d.isos (λ j k. only (4 + j) ∙ ne_eqb i (4 + j) (λ q. omega arith)))

  pub after_iso : (d : Device) (e : Event) (i : ℕ) → EightChannels d → Only e (i + 4) → after rates d e ≡ with_iso i (iso_step rates d.clock (iso_at i d) e).0 d
  unfolding after iso_at
  after_iso d e i w only =
      same_device (clock_stays e 0 d.clock (only 0 ∙ ne_eqb (i + 4) 0 (λ q. omega arith)))
      (moved_none (touches e) _ closed 0 d.chans (λ j k. only (0 + j) ∙ ne_eqb (i + 4) (0 + j) (λ q. omega (arith, w.raws))))
      (moved_one (touches e) _ shut 4 d.isos i (λ j k. only (4 + j) ∙ shift j))
    where
      shift : (j : ℕ) → eqb (i + 4) (4 + j) ≡ eqb i j
      shift j = by (eqb i j) refl
        where
          by : (b : Bool) → eqb i j ≡ b → eqb (i + 4) (4 + j) ≡ eqb i j
          by true q = eq-eqb (i + 4) (4 + j) (omega (arith, eqb-true i j q)) ∙ sym q
          by false q = ne_eqb (i + 4) (4 + j) (λ e. eqb-false i j q (omega arith)) ∙ sym q

  pub after_one : (d : Device) (e : Event) (i : ℕ) → EightChannels d → Only e i → after rates d e ≡ with_any i (any_step rates d.clock (any_at i d) e).0 d
  unfolding with_any any_at any_step
  after_one d e i w only = by (ltb i 4) refl
    where
      by : (b : Bool) → ltb i 4 ≡ b → after rates d e ≡ with_any i (any_step rates d.clock (if b then raw (chan_at i d) else iso (iso_at (i - 4) d)) e).0 d
      by true q = after_raw d e i w (ltb-true i 4 q) only
      by false q =
          let same : i - 4 + 4 ≡ i = omega (arith, ltb-false i 4 q) in
          after_iso d e (i - 4) w (subst (Only e) (sym same) only)

  -- one that touches none of the eight and leaves the clock leaves the device
  pub none_move : (d : Device) (e : Event) → EightChannels d → clock_after d.clock e ≡ d.clock → ((i : ℕ) → i < 8 → touches e i ≡ false) → after rates d e ≡ d
  unfolding after
  none_move d e w still nowhere =
      same_device still (moved_none (touches e) _ closed 0 d.chans (λ j k. nowhere (0 + j) (omega (arith, w.raws))))
      (moved_none (touches e) _ shut 4 d.isos (λ j k. nowhere (4 + j) (omega (arith, w.isos))))

  -- one that touches all maps its step over them
  pub after_all : (d : Device) (e : Event) → ((i : ℕ) → touches e i ≡ true)
      → after rates d e ≡ record { clock = clock_after d.clock e; chans = map (λ c. (chan_step rates d.clock c e).0) d.chans; isos = map (λ c. (iso_step rates d.clock c e).0) d.isos }
  unfolding after
  after_all d e every = same_device refl (moved_all (touches e) _ every 0 d.chans) (moved_all (touches e) _ every 4 d.isos)

  -- ---- answers

  -- the answer of the channel that speaks, from its own state and the clock
  pub answer_spoken : (d : Device) (e : Event) (i : ℕ) → speaker e ≡ some i → answer rates d e ≡ (any_step rates d.clock (any_at i d) e).1
  unfolding answer answer_by
  answer_spoken d e i h = rw h

  -- where none speaks, an answer that no state shows in
  pub answer_own : (d : Device) (e : Event) → speaker e ≡ none → answer rates d e ≡ own_answer rates e
  unfolding answer answer_by
  answer_own d e h = rw h

  -- ---- one step, event by event

  together : (d : Device) (e : Event) {x : Device} {a : Answer} → after rates d e ≡ x → answer rates d e ≡ a → step rates d e ≡ (x, a)
  unfolding step
  together d e p q = λ j. (p j, q j)

  -- an event that a channel answers: its step in its place, and its answer
  pub step_spoken : (d : Device) (e : Event) (i : ℕ) → EightChannels d → speaker e ≡ some i
      → step rates d e ≡ (with_any i (any_step rates d.clock (any_at i d) e).0 d, (any_step rates d.clock (any_at i d) e).1)
  step_spoken d e i w h = together d e (after_one d e i w (speaker_only e i h)) (answer_spoken d e i h)

  -- the same for a raw channel, and for an ISO 15765 channel
  pub step_raw : (d : Device) (e : Event) (i : ℕ) → EightChannels d → i < 4 → speaker e ≡ some i
      → step rates d e ≡ (with_chan i (chan_step rates d.clock (chan_at i d) e).0 d, (chan_step rates d.clock (chan_at i d) e).1)
  unfolding any_step
  step_raw d e i w k h =
      together d e (after_raw d e i w k (speaker_only e i h)) (answer_spoken d e i h ∙ ap (λ (a : Any). (any_step rates d.clock a e).1) (any_raw i d k))

  pub step_iso : (d : Device) (e : Event) (i : ℕ) → EightChannels d → speaker e ≡ some (i + 4)
      → step rates d e ≡ (with_iso i (iso_step rates d.clock (iso_at i d) e).0 d, (iso_step rates d.clock (iso_at i d) e).1)
  unfolding any_step
  step_iso d e i w h =
      together d e (after_iso d e i w (speaker_only e (i + 4) h)) (answer_spoken d e (i + 4) h ∙ ap (λ (a : Any). (any_step rates d.clock a e).1) (any_iso i d))

  pub step_connect : (d : Device) (l f r : ℕ) → EightChannels d → l < 4
      → step rates d (connect l 5 f r) ≡ (with_chan l (noted_in_use (on_connect rates (chan_at l d) l 5 f r)).0 d, (noted_in_use (on_connect rates (chan_at l d) l 5 f r)).1)
  unfolding chan_step speaker connected
  step_connect d l f r w h = step_raw d (connect l 5 f r) l w h (rw (lt-ltb l 4 h))

  pub step_iso_connect : (d : Device) (l f r : ℕ) → EightChannels d → l < 4
      → step rates d (connect l 6 f r) ≡ (with_iso l (iso_noted_in_use (on_iso_connect rates (iso_at l d) l 6 f r)).0 d, (iso_noted_in_use (on_iso_connect rates (iso_at l d) l 6 f r)).1)
  unfolding iso_step speaker connected
  step_iso_connect d l f r w h = step_iso d (connect l 6 f r) l w (rw (lt-ltb l 4 h))

  pub step_call : (d : Device) (i : ℕ) (x : Call) → EightChannels d → i < 4
      → step rates d (call (i + 1) x) ≡ (with_chan i (noted (on_call rates d.clock (chan_at i d) x)).0 d, (noted (on_call rates d.clock (chan_at i d) x)).1)
  unfolding chan_step speaker
  step_call d i x w h = step_raw d (call (i + 1) x) i w h (number_place x i (omega arith) (raw_nameable x i h))

  pub step_iso_call : (d : Device) (i : ℕ) (x : Call) → EightChannels d → i < 4 → raw_only x ≡ false
      → step rates d (call (i + 5) x) ≡ (with_iso i (iso_noted (on_iso_call rates d.clock (iso_at i d) x)).0 d, (iso_noted (on_iso_call rates d.clock (iso_at i d) x)).1)
  unfolding iso_step speaker
  step_iso_call d i x w h all =
      let same : i + 4 + 1 ≡ i + 5 = omega arith in
      step_iso d (call (i + 5) x) i w (subst (λ (k : ℕ). numbered x k ≡ some (i + 4)) same (number_place x (i + 4) (omega arith) (all_nameable x (i + 4) all)))

  -- what holds of a call's outcome on its raw channel holds of the device's step
  pub call_carried : (P : Chan → Answer → Type 0) (d : Device) (i : ℕ) (x : Call) → i < 4 → EightChannels d
      → P (noted (on_call rates d.clock (chan_at i d) x)).0 (noted (on_call rates d.clock (chan_at i d) x)).1
      → P (chan_at i (step rates d (call (i + 1) x)).0) (step rates d (call (i + 1) x)).1
  unfolding chan_at
  call_carried P d i x h w p =
      let o : Outcome = noted (on_call rates d.clock (chan_at i d) x) in
      subst (λ (s : Device × Answer). P (chan_at i s.0) s.1) (sym (step_call d i x w h))
      (subst (λ (c : Chan). P c o.1) (sym (get_or-set_same d.chans i o.0 closed (omega (arith, w.raws)))) p)

  -- and of a call's outcome on its ISO 15765 channel
  pub iso_call_carried : (P : Iso → Answer → Type 0) (d : Device) (i : ℕ) (x : Call) → i < 4 → EightChannels d → raw_only x ≡ false
      → P (iso_noted (on_iso_call rates d.clock (iso_at i d) x)).0 (iso_noted (on_iso_call rates d.clock (iso_at i d) x)).1
      → P (iso_at i (step rates d (call (i + 5) x)).0) (step rates d (call (i + 5) x)).1
  unfolding iso_at
  iso_call_carried P d i x h w all p =
      let o : Iso × Answer = iso_noted (on_iso_call rates d.clock (iso_at i d) x) in
      subst (λ (s : Device × Answer). P (iso_at i s.0) s.1) (sym (step_iso_call d i x w h all))
      (subst (λ (c : Iso). P c o.1) (sym (get_or-set_same d.isos i o.0 shut (omega (arith, w.isos)))) p)

  -- a frame moves both channels of its line
  pub step_frame : (d : Device) (l w n : ℕ) (b : List ℕ) → EightChannels d
      → step rates d (frame l w n b) ≡ (with_line l (on_frame d.clock (chan_at l d) w n b) (on_iso_frame d.clock (iso_at l d) w n b) d, own_answer rates (frame l w n b))
  unfolding chan_step iso_step speaker after touches line_of clock_after chan_at iso_at
  step_frame d l w n b eight =
      together d (frame l w n b)
      (same_device refl (moved_one _ _ closed 0 d.chans l (λ j k. raw_line j (omega (arith, eight.raws)))) (moved_one _ _ shut 4 d.isos l (λ j k. iso_line j)))
      (answer_own d (frame l w n b) refl)
    where
      raw_line : (j : ℕ) → j < 4 → eqb l (if ltb (0 + j) 4 then 0 + j else 0 + j - 4) ≡ eqb l j
      raw_line j k = let same : 0 + j ≡ j = omega arith in rw (same, lt-ltb j 4 k)

      iso_line : (j : ℕ) → eqb l (if ltb (4 + j) 4 then 4 + j else 4 + j - 4) ≡ eqb l j
      iso_line j = let back : 4 + j - 4 ≡ j = omega arith in rw (le-ltb (4 + j) 4 (omega arith), back)

  pub step_advance : (d : Device) (t : ℕ)
      → step rates d (advance t) ≡ (record { clock = clock_after d.clock (advance t); chans = map (on_advance t) d.chans; isos = map (on_iso_advance t) d.isos }, own_answer rates (advance t))
  unfolding chan_step iso_step touches speaker
  step_advance d t = together d (advance t) (after_all d (advance t) (λ i. refl)) (answer_own d (advance t) refl)

  pub step_close : (d : Device) → step rates d close ≡ (record { clock = d.clock; chans = map (λ c. closed) d.chans; isos = map (λ c. shut) d.isos }, says 0x00 0 [])
  unfolding chan_step iso_step touches speaker clock_after own_answer raw_step.own_answer
  step_close d = together d close (after_all d close (λ i. refl)) (answer_own d close refl)

  -- an event that no channel answers and that leaves every channel and the clock
  pub step_nobody : (d : Device) (e : Event) → EightChannels d → clock_after d.clock e ≡ d.clock → ((i : ℕ) → i < 8 → touches e i ≡ false) → speaker e ≡ none
      → step rates d e ≡ (d, own_answer rates e)
  step_nobody d e w still out h = together d e (none_move d e w still out) (answer_own d e h)

  -- a call that names no channel leaves the device, whatever it holds
  pub step_unnamed : (d : Device) (k : ℕ) (x : Call) → EightChannels d → (within 1 8 k && nameable x (k - 1)) ≡ false → step rates d (call k x) ≡ (d, says 0x02 0 (lent x))
  unfolding own_answer raw_step.own_answer clock_after speaker numbered touches
  step_unnamed d k x w out = step_nobody d (call k x) w refl (λ i h. by i h (eqb k (i + 1)) refl) (rw out)
    where
      by : (i : ℕ) → i < 8 → (b : Bool) → eqb k (i + 1) ≡ b → (eqb k (i + 1) && nameable x i) ≡ false
      by i h true q =
          let e : k ≡ i + 1 = eqb-true k (i + 1) q in
          let back : k - 1 ≡ i = omega arith in
          rw q (sym (ap (nameable x) back) ∙ sym (ap (λ (b : Bool). b && nameable x (k - 1)) (between 1 8 k (omega arith) (omega arith))) ∙ out)
      by i h false q = rw q

  -- so does a call whose number is not 1 to 8, one that takes a raw channel's number and has another, and a connect to a line over 3 or of another
  -- protocol
  pub step_no_channel : (d : Device) (k : ℕ) (x : Call) → EightChannels d → within 1 8 k ≡ false → step rates d (call k x) ≡ (d, says 0x02 0 (lent x))
  step_no_channel d k x w out = step_unnamed d k x w (ap (λ (b : Bool). b && nameable x (k - 1)) out)

  pub step_raw_only : (d : Device) (k : ℕ) (x : Call) → EightChannels d → raw_only x ≡ true → 4 < k → step rates d (call k x) ≡ (d, says 0x02 0 (lent x))
  step_raw_only d k x w only h = step_unnamed d k x w (ap (λ (b : Bool). within 1 8 k && b) (iso_unnamed x (k - 1) only (omega arith)) ∙ and-false (within 1 8 k))

  pub step_no_connect : (d : Device) (l p f r : ℕ) → EightChannels d → connected l p ≡ none → step rates d (connect l p f r) ≡ (d, own_answer rates (connect l p f r))
  unfolding clock_after speaker
  step_no_connect d l p f r w out = step_nobody d (connect l p f r) w refl (λ i h. nowhere i h (touches (connect l p f r) i) refl) out
    where
      nowhere : (i : ℕ) → i < 8 → (b : Bool) → touches (connect l p f r) i ≡ b → touches (connect l p f r) i ≡ false
      nowhere i h true q = absurd (no_place (sym out ∙ touched_connected l p f r i h q))
      nowhere i h false q = q

  -- ---- runs

  pub run_channels_kept : (d : Device) (es : List Event) → EightChannels d → EightChannels (run rates d es)
  unfolding run step
  run_channels_kept d [] w = w
  run_channels_kept d (e ∷ es) w = run_channels_kept (after rates d e) es (channels_kept d e w)

  -- two runs in a row
  pub run_append : (d : Device) (xs ys : List Event) → run rates d (xs ++ ys) ≡ run rates (run rates d xs) ys
  unfolding run
  run_append d [] ys = refl
  run_append d (e ∷ xs) ys = run_append (step rates d e).0 xs ys

  pub answers_append : (d : Device) (xs ys : List Event) → answers rates d (xs ++ ys) ≡ answers rates d xs ++ answers rates (run rates d xs) ys
  unfolding run answers
  answers_append d [] ys = refl
  answers_append d (e ∷ xs) ys = ap (λ (r : List Answer). (step rates d e).1 ∷ r) (answers_append (step rates d e).0 xs ys)
