-- Request P11: export then import gives back the frames in order, with the same time at each, and stops nowhere. Assumes nothing.
use Rattle.std.specs.Prelude.{if◌then◌else◌}
use Prim.Native.Nat.{ℕ, zero, suc, ◌+◌, ◌-◌, ◌*◌, ◌/◌, ◌%◌, ◌≤◌, ◌<◌}
use mathlib.Core.Path.{◌≡◌, refl, sym, ap, ap₂, ◌∙◌, subst}
use mathlib.Core.Logic.{◌⊎◌, inl, inr, ⊎_elim}
use mathlib.Core.Bool.{Bool, true, false, ◌||◌}
use mathlib.Core.List.{List, [], ◌∷◌, ◌++◌, map, append_assoc, append-nil}
use native.Mathlib.Omega.{arith}
use borrow.Author.Tests.{eqb-true, eqb-false, eq-eqb, ne_eqb, ltb-true, ltb-false, le-ltb, lt-leb, le-leb}
use lib.Dec.{eqb, leb, ltb, T}
use lib.ListN.{length, replicate, length-append}
use Rattle.codec.specs.Plain.{all, is_byte}
use Rattle.codec.proofs.Lists.{Each}
use Rattle.machine.specs.Codes.{code_of, three_rates}
use Rattle.machine.specs.Limits.{last_line, most_bytes, most_advance}
use Rattle.machine.specs.Message.{id_limit}
use Rattle.machine.specs.Channel.{frame_code, says}
use Rattle.machine.specs.Step as raw_step
use Rattle.machine.specs.Step.{Event, connect, call, frame, advance, close, clock_after}
use Rattle.whole.specs.Device.{Device, power_on, speaker, own_answer, answer_by, answer, step, after}
use Rattle.edition.specs.Edition.{rates_of}
use Rattle.recording_sizes.specs.Sizes.{longest}
use Rattle.number.specs.Number.{largest}
use Rattle.event_list.specs.Run.{events_of}
use Rattle.candump.specs.Line.{Logged, Good, line_text, Said, malformed, unknown, tells, line_in}
use Rattle.candump.specs.Log.{entry, lasts, logged_in, log_of, clocks_in, clocks_of, lines_text, exported, lines_of, event_bytes, bytes_all, rest, full, advances, frame_of, room, line_events, is_malformed, is_unknown, goes_back, does_not_fit, Import, whole, stopped, taking, importing, imported, taken_of, taken, Imports, Returns}
use Rattle.candump.proofs.Cost.{price, price_zero, cheapest, length_both, length_more, bytes_append}
use Rattle.candump.proofs.Line.{line_back, lines_back, line_good}
use Rattle.candump.proofs.Stopping.{line_taken}
use Rattle.candump.proofs.Reading.{Writable, an_advance, a_frame, AllWritable, none_left, one_more, events_back}
use Rattle.candump.proofs.Sizes.{Fine, events_fit}

-- ---- the log of a run doesn't depend on the device

code : Event → ℕ
code e = (own_answer three_rates e).code

plain : ℕ → List Event → List Logged
plain t [] = []
plain t (e ∷ es) = entry t e (code e) ++ plain (t + lasts e (code e)) es

logged_plain : (rates : List ℕ) (t : ℕ) (d : Device) (es : List Event) → logged_in rates t d es ≡ plain t es
unfolding logged_in plain code entry lasts step answer answer_by speaker own_answer raw_step.own_answer
logged_plain rates t d [] = refl
logged_plain rates t d (connect l p f r ∷ es) = logged_plain rates (t + 0) _ es
logged_plain rates t d (call k x ∷ es) = logged_plain rates (t + 0) _ es
logged_plain rates t d (frame l w n b ∷ es) = ap (λ (m : List Logged). entry t (frame l w n b) (code (frame l w n b)) ++ m) (logged_plain rates (t + 0) _ es)
logged_plain rates t d (advance u ∷ es) = logged_plain rates (t + lasts (advance u) (code (advance u))) _ es
logged_plain rates t d (close ∷ es) = logged_plain rates (t + 0) _ es

-- ---- which frames and advances are good

record FrameGood (l w n : ℕ) (b : List ℕ) : Type 0 where
  bus : l ≤ last_line
  mark : w ≤ 1
  small : n ≤ id_limit (eqb w 1)
  few : length b ≤ most_bytes
  is : code (frame l w n b) ≡ 0x00

frame_view : (l w n : ℕ) (b : List ℕ) → FrameGood l w n b ⊎ (eqb (code (frame l w n b)) 0x00 ≡ false)
unfolding code own_answer raw_step.own_answer says code_of frame_code
frame_view l w n b = by (ltb last_line l) refl (ltb 1 w) refl (ltb (id_limit (eqb w 1)) n) refl (ltb most_bytes (length b)) refl
  where
    by : (g₁ : Bool) → ltb last_line l ≡ g₁ → (g₂ : Bool) → ltb 1 w ≡ g₂ → (g₃ : Bool) → ltb (id_limit (eqb w 1)) n ≡ g₃ → (g₄ : Bool) → ltb most_bytes (length b) ≡ g₄
        → FrameGood l w n b ⊎ (eqb (code (frame l w n b)) 0x00 ≡ false)
    by true p g₂ q g₃ r g₄ s = inr (rw p)
    by false p true q g₃ r g₄ s = inr (rw (p, q))
    by false p false q true r g₄ s = inr (rw (p, q, r))
    by false p false q false r true s = inr (rw (p, q, r, s))
    by false p false q false r false s =
        inl (record { bus = ltb-false last_line l p; mark = ltb-false 1 w q; small = ltb-false (id_limit (eqb w 1)) n r; few = ltb-false most_bytes (length b) s; is = rw (p, q, r, s) })

advance_view : (u : ℕ) → ((u ≤ most_advance) × (code (advance u) ≡ 0x00)) ⊎ (eqb (code (advance u)) 0x00 ≡ false)
unfolding code own_answer raw_step.own_answer says code_of
advance_view u = by (ltb most_advance u) refl
  where
    by : (g : Bool) → ltb most_advance u ≡ g → ((u ≤ most_advance) × (code (advance u) ≡ 0x00)) ⊎ (eqb (code (advance u)) 0x00 ≡ false)
    by true p = inr (rw p)
    by false p = inl (ltb-false most_advance u p, rw p)

-- ---- one event more

entry_of : ℕ → ℕ → ℕ → ℕ → List ℕ → Logged
entry_of t l w n b = record { time = t; line = l; wide = eqb w 1; id = n; bytes = b }

plain_frame : (t : ℕ) (es : List Event) (l w n : ℕ) (b : List ℕ) → code (frame l w n b) ≡ 0x00 → plain t (frame l w n b ∷ es) ≡ entry_of t l w n b ∷ plain t es
unfolding plain entry lasts entry_of
plain_frame t es l w n b e = let z : t + 0 ≡ t = omega arith in rw (e, z)

plain_advance : (t : ℕ) (es : List Event) (u : ℕ) → code (advance u) ≡ 0x00 → plain t (advance u ∷ es) ≡ plain (t + u) es
unfolding plain entry lasts
plain_advance t es u e = ap (λ (c : ℕ). plain (t + lasts (advance u) c) es) e

-- a refused advance takes no time
no_time : (u c : ℕ) → eqb c 0x00 ≡ false → lasts (advance u) c ≡ 0
unfolding lasts
no_time u c e = ap (λ (g : Bool). if g then u else 0) e

-- a refused frame is not logged
no_entry : (t l w n : ℕ) (b : List ℕ) (c : ℕ) → eqb c 0x00 ≡ false → entry t (frame l w n b) c ≡ []
unfolding entry
no_entry t l w n b c e =
    ap (λ (g : Bool). if◌then◌else◌ {A = List Logged} g (record { time = t; line = l; wide = eqb w 1; id = n; bytes = b } ∷ []) []) e

-- an event logs nothing and takes no time; or it is an accepted advance; or a good frame
data View : Event → Type 0 where
  quiet : {e : Event} → ((t : ℕ) (es : List Event) → plain t (e ∷ es) ≡ plain t es) → View e
  moves : {u : ℕ} → u ≤ most_advance → code (advance u) ≡ 0x00 → View (advance u)
  logs : {l w n : ℕ} {b : List ℕ} → FrameGood l w n b → View (frame l w n b)

view : (e : Event) → View e
unfolding plain entry lasts
view (connect l p f r) = quiet {e = connect l p f r} (λ t es. let z : t + 0 ≡ t = omega arith in rw z)
view (call k x) = quiet {e = call k x} (λ t es. let z : t + 0 ≡ t = omega arith in rw z)
view (frame l w n b) = ⊎_elim logs (λ (e : eqb (code (frame l w n b)) 0x00 ≡ false). quiet {e = frame l w n b} (λ t es. let z : t + 0 ≡ t = omega arith in ap₂ (λ (xs : List Logged) (n : ℕ). xs ++ plain n es) (no_entry t l w n b (code (frame l w n b)) e) z)) (frame_view l w n b)
view (advance u) = ⊎_elim (λ (h : (u ≤ most_advance) × (code (advance u) ≡ 0x00)). moves h.0 h.1) (λ (e : eqb (code (advance u)) 0x00 ≡ false). quiet {e = advance u} (λ t es. let z : t + lasts (advance u) (code (advance u)) ≡ t = omega (arith, no_time u (code (advance u)) e) in ap (λ (n : ℕ). plain n es) z)) (advance_view u)
view close = quiet {e = close} (λ t es. let z : t + 0 ≡ t = omega arith in rw z)

-- ---- what is logged is good, and never goes back in time

abbrev Ascending : ℕ → List Logged → Type 0
Ascending t [] = Unit {0}
Ascending t (g ∷ gs) = Good g × (t ≤ g.time) × Ascending g.time gs

ascending_step : (e : Event) → View e → (es : List Event) → Fine e → ((s₀ s : ℕ) → s₀ ≤ s → Ascending s₀ (plain s es)) → (t₀ t : ℕ) → t₀ ≤ t → Ascending t₀ (plain t (e ∷ es))
unfolding entry_of
ascending_step e (quiet q) es f ih t₀ t h = subst (Ascending t₀) (sym (q t es)) (ih t₀ t h)
ascending_step (advance u) (moves m c) es f ih t₀ t h = subst (Ascending t₀) (sym (plain_advance t es u c)) (ih t₀ (t + u) (omega arith))
ascending_step (frame l w n b) (logs g) es f ih t₀ t h =
    subst (Ascending t₀) (sym (plain_frame t es l w n b g.is))
    (record { bus = g.bus; small = g.small; few = g.few; octets = f }, h, ih t t (omega arith))

ascending : (es : List Event) → Each Fine es → (t₀ t : ℕ) → t₀ ≤ t → Ascending t₀ (plain t es)
unfolding plain
ascending [] f t₀ t h = tt
ascending (e ∷ es) f t₀ t h = ascending_step e (view e) es f.0 (ascending es f.1) t₀ t h

-- ---- what an import of them writes

events_for : ℕ → List Logged → List Event
events_for t [] = []
events_for t (g ∷ gs) = line_events t g ++ events_for g.time gs

mark_back : (w : ℕ) → w ≤ 1 → (if eqb w 1 then 1 else 0) ≡ w
mark_back zero h = refl
mark_back (suc zero) h = refl
mark_back (suc (suc w)) h = absurd (omega arith)

frame_again : (t l w n : ℕ) (b : List ℕ) → w ≤ 1 → frame_of (entry_of t l w n b) ≡ frame l w n b
unfolding frame_of entry_of
frame_again t l w n b h = ap (λ (m : ℕ). frame l m n b) (mark_back w h)

line_size : (t : ℕ) (g : Logged) → length (bytes_all (line_events t g)) ≡ price (g.time - t) + length (event_bytes (frame_of g))
unfolding line_events bytes_all
line_size t g = omega (arith, length_both (advances (g.time - t)) (frame_of g ∷ []), length_more (frame_of g) [])

entry_size : (t₀ t l w n : ℕ) (b : List ℕ) (gs : List Logged) → w ≤ 1
    → length (bytes_all (events_for t₀ (entry_of t l w n b ∷ gs))) ≡ price (t - t₀) + length (event_bytes (frame l w n b)) + length (bytes_all (events_for t gs))
unfolding events_for entry_of
entry_size t₀ t l w n b gs h =
    length_both (line_events t₀ (entry_of t l w n b)) (events_for t gs)
    ∙ ap (λ (k : ℕ). k + length (bytes_all (events_for t gs))) (line_size t₀ (entry_of t l w n b) ∙ ap (λ (e : Event). price (t - t₀) + length (event_bytes e)) (frame_again t l w n b h))

-- IT NEVER GROWS PAST THE RECORDING
abbrev Cost : ℕ → ℕ → List Event → Type 0
Cost t₀ t es = length (bytes_all (events_for t₀ (plain t es))) ≤ price (t - t₀) + length (bytes_all es)

cost_step : (e : Event) → View e → (es : List Event) → ((s₀ s : ℕ) → s₀ ≤ s → Cost s₀ s es) → (t₀ t : ℕ) → t₀ ≤ t → Cost t₀ t (e ∷ es)
unfolding events_for
cost_step e (quiet q) es ih t₀ t h =
    subst (λ (gs : List Logged). length (bytes_all (events_for t₀ gs)) ≤ price (t - t₀) + length (bytes_all (e ∷ es))) (sym (q t es))
    (omega (arith, ih t₀ t h, length_more e es))
cost_step (advance u) (moves m c) es ih t₀ t h =
    let apart : t + u - t₀ ≡ t - t₀ + u = omega arith in
    let later : t₀ ≤ t + u = omega arith in
    subst (λ (gs : List Logged). length (bytes_all (events_for t₀ gs)) ≤ price (t - t₀) + length (bytes_all (advance u ∷ es))) (sym (plain_advance t es u c))
    (omega (arith, ih t₀ (t + u) later, ap (λ (n : ℕ). price n) apart, cheapest (t - t₀) u m, length_more (advance u) es))
cost_step (frame l w n b) (logs g) es ih t₀ t h =
    let here : t - t ≡ 0 = omega arith in
    let now : t ≤ t = omega arith in
    subst (λ (gs : List Logged). length (bytes_all (events_for t₀ gs)) ≤ price (t - t₀) + length (bytes_all (frame l w n b ∷ es))) (sym (plain_frame t es l w n b g.is))
    (omega (
      arith,
      ih t t now,
      ap (λ (n : ℕ). price n) here,
      price_zero,
      entry_size t₀ t l w n b (plain t es) g.mark,
      length_more (frame l w n b) es,
    ))

cost_all : (es : List Event) (t₀ t : ℕ) → t₀ ≤ t → Cost t₀ t es
unfolding plain events_for bytes_all
cost_all [] t₀ t h = omega arith
cost_all (e ∷ es) t₀ t h = cost_step e (view e) es (cost_all es) t₀ t h

-- ---- the import takes every line

importing_all : (t n : ℕ) (out : List ℕ) (gs : List Logged) → Ascending t gs → length (out ++ bytes_all (events_for t gs)) ≤ room
    → importing t n out (map line_text gs) ≡ whole (out ++ bytes_all (events_for t gs))
unfolding importing events_for bytes_all
importing_all t n out [] a h = ap whole (sym (append-nil out))
importing_all t n out (g ∷ gs) a h =
    let e : out ++ bytes_all (line_events t g ++ events_for g.time gs) ≡ (out ++ bytes_all (line_events t g)) ++ bytes_all (events_for g.time gs)
    = ap (λ (l : List ℕ). out ++ l) (bytes_append (line_events t g) (events_for g.time gs)) ∙ sym (append_assoc out (bytes_all (line_events t g)) (bytes_all (events_for g.time gs))) in
    let fits : length ((out ++ bytes_all (line_events t g)) ++ bytes_all (events_for g.time gs)) ≤ room = subst (λ (l : List ℕ). length l ≤ room) e h in
    let small : length (out ++ bytes_all (line_events t g)) ≤ room = omega (arith, length-append (out ++ bytes_all (line_events t g)) (bytes_all (events_for g.time gs))) in
    line_taken t n out (line_text g) (map line_text gs) g (line_back g a.0) a.1 small
    ∙ (importing_all g.time (n + 1) (out ++ bytes_all (line_events t g)) gs a.2 fits ∙ ap whole (sym e))

-- ---- what it wrote is read back as the same log

full_on : (k t : ℕ) (es : List Event) → plain t (replicate k (advance full) ++ es) ≡ plain (t + k * full) es
unfolding code own_answer raw_step.own_answer says code_of
full_on zero t es = let z : t ≡ t + 0 * full = omega arith in ap (λ (n : ℕ). plain n es) z
full_on (suc k) t es =
    let z : t + full + k * full ≡ t + suc k * full = omega arith in
    plain_advance t (replicate k (advance full) ++ es) full refl ∙ full_on k (t + full) es ∙ ap (λ (n : ℕ). plain n es) z

rest_on : (r t : ℕ) (es : List Event) → r < full → plain t (rest r ++ es) ≡ plain (t + r) es
unfolding rest code own_answer raw_step.own_answer says code_of
rest_on zero t es h = let z : t ≡ t + 0 = omega arith in ap (λ (n : ℕ). plain n es) z
rest_on (suc r) t es h = plain_advance t es (suc r) (rw (le-ltb most_advance (suc r) (omega arith)))

advances_on : (n t : ℕ) (es : List Event) → plain t (advances n ++ es) ≡ plain (t + n) es
unfolding advances
advances_on n t es =
    let z : t + n / full * full + n % full ≡ t + n = omega arith in
    let small : n % full < full = omega arith in
    ap (plain t) (append_assoc (replicate (n / full) (advance full)) (rest (n % full)) es)
    ∙ full_on (n / full) t (rest (n % full) ++ es)
    ∙ rest_on (n % full) (t + n / full * full) es small
    ∙ ap (λ (m : ℕ). plain m es) z

-- a good frame is answered 0x00, and logged as it was
mark_wide : (wide : Bool) → eqb (if wide then 1 else 0) 1 ≡ wide
mark_wide true = refl
mark_wide false = refl

mark_small : (wide : Bool) → (if wide then 1 else 0) ≤ 1
mark_small true = omega arith
mark_small false = omega arith

good_code : (g : Logged) → Good g → code (frame_of g) ≡ 0x00
unfolding code own_answer raw_step.own_answer says code_of frame_code frame_of
good_code g h =
    rw (le-ltb last_line g.line h.bus, le-ltb 1 (if g.wide then 1 else 0) (mark_small g.wide), mark_wide g.wide, le-ltb (id_limit g.wide) g.id h.small, le-ltb most_bytes (length g.bytes) h.few)

entry_again : (g : Logged) → entry_of g.time g.line (if g.wide then 1 else 0) g.id g.bytes ≡ g
unfolding entry_of
entry_again g = ap (λ (w : Bool). record { time = g.time; line = g.line; wide = w; id = g.id; bytes = g.bytes }) (mark_wide g.wide)

plain_back : (t : ℕ) (gs : List Logged) → Ascending t gs → plain t (events_for t gs) ≡ gs
unfolding events_for line_events frame_of plain
plain_back t [] a = refl
plain_back t (g ∷ gs) a =
    let z : t + (g.time - t) ≡ g.time = omega (arith, a.1) in
    ap (plain t) (append_assoc (advances (g.time - t)) (frame_of g ∷ []) (events_for g.time gs))
    ∙ advances_on (g.time - t) t (frame_of g ∷ events_for g.time gs)
    ∙ ap (λ (m : ℕ). plain m (frame_of g ∷ events_for g.time gs)) z
    ∙ plain_frame g.time (events_for g.time gs) g.line (if g.wide then 1 else 0) g.id g.bytes (good_code g a.0)
    ∙ ap₂ (λ (x : Logged) (xs : List Logged). x ∷ xs) (entry_again g) (plain_back g.time gs a.2)

-- ---- it can be read

all_both : {xs ys : List Event} → AllWritable xs → AllWritable ys → AllWritable (xs ++ ys)
all_both none_left b = b
all_both (one_more w ws) b = one_more w (all_both ws b)

all_full : (k : ℕ) → AllWritable (replicate k (advance full))
all_full zero = none_left
all_full (suc k) = one_more (an_advance {u = full} (omega arith)) (all_full k)

all_rest : (r : ℕ) → r < full → AllWritable (rest r)
unfolding rest
all_rest zero h = none_left
all_rest (suc r) h = one_more (an_advance {u = suc r} (omega arith)) none_left

limit_most : (wide : Bool) → id_limit wide ≤ 0x1FFFFFFF
unfolding id_limit
limit_most true = omega arith
limit_most false = omega arith

all_for : (t : ℕ) (gs : List Logged) → Ascending t gs → AllWritable (events_for t gs)
unfolding events_for line_events advances frame_of
all_for t [] a = none_left
all_for t (g ∷ gs) a =
    let small : (g.time - t) % full < full = omega arith in
    let good : Good g = a.0 in
    let id : g.id ≤ largest = omega (arith, good.small, limit_most g.wide) in
    all_both (all_both (all_both (all_full ((g.time - t) / full)) (all_rest ((g.time - t) % full) small))
    (one_more (a_frame {l = g.line} {w = if g.wide then 1 else 0} {n = g.id} {b = g.bytes} (omega (arith, good.bus)) (omega (arith, mark_small g.wide)) id (omega (arith, good.few))) none_left))
    (all_for g.time gs a.2)

-- ---- the clock

-- a frame's clock is its time from the start on, modulo 2^32
since_start : ℕ → Logged → ℕ
since_start start g = (g.time - start) % 0x1_0000_0000

advance_clock : (start t now u : ℕ) → start ≤ t → now ≡ (t - start) % 0x1_0000_0000 → clock_after now (advance u) ≡ (t + lasts (advance u) (code (advance u)) - start) % 0x1_0000_0000
unfolding clock_after lasts code own_answer raw_step.own_answer says code_of
advance_clock start t now u h e = by (ltb most_advance u) refl
  where
    by : (g : Bool) → ltb most_advance u ≡ g → (if leb u most_advance then (now + u) % 0x1_0000_0000 else now) ≡ (t + (if eqb (if g then 0x0B else 0x00) 0x00 then u else 0) - start) % 0x1_0000_0000
    by true q = rw (lt-leb u most_advance (ltb-true most_advance u q)) (omega arith)
    by false q = rw (le-leb u most_advance (ltb-false most_advance u q)) (omega arith)

clocks_logged : (rates : List ℕ) (start t : ℕ) (d : Device) (es : List Event) → start ≤ t → d.clock ≡ (t - start) % 0x1_0000_0000 → clocks_in rates d es ≡ map (since_start start) (logged_in rates t d es)
unfolding clocks_in logged_in entry lasts step after answer answer_by speaker clock_after since_start code own_answer raw_step.own_answer
clocks_logged rates start t d [] h e = refl
clocks_logged rates start t d (connect l p f r ∷ es) h e = let z : t + 0 ≡ t = omega arith in rw z (clocks_logged rates start t _ es h e)
clocks_logged rates start t d (call k x ∷ es) h e = let z : t + 0 ≡ t = omega arith in rw z (clocks_logged rates start t _ es h e)
clocks_logged rates start t d (frame l w n b ∷ es) h e = let z : t + 0 ≡ t = omega arith in rw z (by (eqb (code (frame l w n b)) 0x00) _ _ (clocks_logged rates start t _ es h e))
  where
    by : (g : Bool) (xs : List ℕ) (ys : List Logged) → xs ≡ map (since_start start) ys
        → map (λ g. d.clock) (if◌then◌else◌ {A = List Logged} g (record { time = 0; line = l; wide = eqb w 1; id = n; bytes = b } ∷ []) []) ++ xs
        ≡ map (since_start start) (if◌then◌else◌ {A = List Logged} g (record { time = t; line = l; wide = eqb w 1; id = n; bytes = b } ∷ []) [] ++ ys)
    by true xs ys q = ap₂ (λ (c : ℕ) (cs : List ℕ). c ∷ cs) e q
    by false xs ys q = q
clocks_logged rates start t d (advance u ∷ es) h e =
    let later : start ≤ t + lasts (advance u) (code (advance u)) = omega arith in
    clocks_logged rates start (t + lasts (advance u) (code (advance u))) _ es later (advance_clock start t d.clock u h e)
clocks_logged rates start t d (close ∷ es) h e = let z : t + 0 ≡ t = omega arith in rw z (clocks_logged rates start t _ es h e)

-- the same log has the same clocks, whatever the rates
same_clocks : (r₁ r₂ : List ℕ) (start : ℕ) (xs ys : List Event) → logged_in r₁ start power_on xs ≡ logged_in r₂ start power_on ys → clocks_in r₁ power_on xs ≡ clocks_in r₂ power_on ys
unfolding power_on
same_clocks r₁ r₂ start xs ys e =
    let z : 0 ≡ (start - start) % 0x1_0000_0000 = omega arith in
    let h : start ≤ start = omega arith in
    clocks_logged r₁ start start power_on xs h z ∙ ap (map (since_start start)) e ∙ sym (clocks_logged r₂ start start power_on ys h z)

-- what an import writes is logged as the frames that it took
log_back : (rates : List ℕ) (start : ℕ) (gs : List Logged) → Ascending start gs → length (bytes_all (events_for start gs)) ≤ room
    → logged_in rates start power_on (events_of (bytes_all (events_for start gs))) ≡ gs
log_back rates start gs asc fits =
    let short : length (bytes_all (events_for start gs)) ≤ longest = omega arith in
    ap (λ (es : List Event). logged_in rates start power_on es) (events_back (all_for start gs asc) short)
    ∙ logged_plain rates start power_on (events_for start gs)
    ∙ plain_back start gs asc

-- ---- any log

-- what is left of a recording when its lines from here on are imported
record Taking (t : ℕ) (out : List ℕ) (r : Import) (gs : List Logged) : Type 0 where
  good : Ascending t gs
  is : r.bytes ≡ out ++ bytes_all (events_for t gs)
  short : length r.bytes ≤ room

module _ (t n : ℕ) (out : List ℕ) (h : length out ≤ room) where
  stays : (reason : ℕ) → Taking t out (stopped out n reason) []
  unfolding events_for bytes_all stopped
  stays reason = record { good = tt; is = sym (append-nil out); short = h }

  module _ (g : Logged) (good : Good g) (r : Import) (gs : List Logged) where
    moves_on : t ≤ g.time → Taking g.time (out ++ bytes_all (line_events t g)) r gs → Taking t out r (g ∷ gs)
    unfolding events_for
    moves_on later k =
        record {
          good = (good, later, k.good);
          is = k.is ∙ append_assoc out (bytes_all (line_events t g)) (bytes_all (events_for g.time gs))
              ∙ ap (λ (m : List ℕ). out ++ m) (sym (bytes_append (line_events t g) (events_for g.time gs)));
          short = k.short;
        }

    tested : (a : Bool) → ltb g.time t ≡ a → (b : Bool) → ltb room (length (out ++ bytes_all (line_events t g))) ≡ b
        → (length (out ++ bytes_all (line_events t g)) ≤ room → Taking g.time (out ++ bytes_all (line_events t g)) r gs)
        → Taking t out (if◌then◌else◌ {A = Import} a (stopped out n goes_back) (if◌then◌else◌ {A = Import} b (stopped out n does_not_fit) r))
        (if◌then◌else◌ {A = List Logged} a [] (if◌then◌else◌ {A = List Logged} b [] (g ∷ gs)))
    tested true x b y ih = stays goes_back
    tested false x true y ih = stays does_not_fit
    tested false x false y ih = moves_on (ltb-false g.time t x) (ih (ltb-false room (length (out ++ bytes_all (line_events t g))) y))

import_takes : (t n : ℕ) (out : List ℕ) (ls : List (List ℕ)) → length out ≤ room → Taking t out (importing t n out ls) (taken t out ls)
unfolding importing taken taking taken_of events_for bytes_all whole
import_takes t n out [] h = record { good = tt; is = sym (append-nil out); short = h }
import_takes t n out (l ∷ ls) h = by (line_in l) refl (λ (g : Logged) (k : length (out ++ bytes_all (line_events t g)) ≤ room). import_takes g.time (n + 1) (out ++ bytes_all (line_events t g)) ls k)
  where
    by : (s : Said) → line_in l ≡ s
        → ((g : Logged) → length (out ++ bytes_all (line_events t g)) ≤ room → Taking g.time (out ++ bytes_all (line_events t g)) (importing g.time (n + 1) (out ++ bytes_all (line_events t g)) ls) (taken g.time (out ++ bytes_all (line_events t g)) ls))
        → Taking t out (taking t n out s (λ g. importing g.time (n + 1) (out ++ bytes_all (line_events t g)) ls)) (taken_of t out s (λ g. taken g.time (out ++ bytes_all (line_events t g)) ls))
    by malformed q ih = stays t n out h is_malformed
    by unknown q ih = stays t n out h is_unknown
    by (tells g) q ih = tested t n out h g (line_good l g q) _ _ (ltb g.time t) refl (ltb room (length (out ++ bytes_all (line_events t g)))) refl (ih g)

-- EVERY IMPORT, of any log and from any start: it fits, and it holds the frames of the lines before the one that stopped it, at their times
pub import_right : (start : ℕ) (log : List ℕ) → Imports start log
unfolding imported log_of
import_right start log =
    let k = import_takes start 1 [] (lines_of log) (omega arith) in
    let short : length (bytes_all (events_for start (taken start [] (lines_of log)))) ≤ room = subst (λ (l : List ℕ). length l ≤ room) k.is k.short in
    record {
      fits = k.short;
      holds = ap (λ (l : List ℕ). logged_in (rates_of l) start power_on (events_of l)) k.is
          ∙ log_back (rates_of (bytes_all (events_for start (taken start [] (lines_of log))))) start (taken start [] (lines_of log)) k.good short;
    }

-- THE WAY BACK, for every recording of bytes and every start
pub back : (start : ℕ) (recording : List ℕ) → T (all is_byte recording) → Returns start recording
unfolding exported imported log_of clocks_of whole
back start r octets =
    let fit = events_fit r octets in
    let gs : List Logged = plain start (events_of r) in
    let bs : List ℕ = bytes_all (events_for start (plain start (events_of r))) in
    let asc : Ascending start (plain start (events_of r)) = ascending (events_of r) fit.1 start start (omega arith) in
    let here : start - start ≡ 0 = omega arith in
    let fits : length (bytes_all (events_for start (plain start (events_of r)))) ≤ room
    = omega (arith, cost_all (events_of r) start start (omega arith), ap (λ (n : ℕ). price n) here, price_zero, fit.0) in
    let log : logged_in (rates_of r) start power_on (events_of r) ≡ plain start (events_of r) = logged_plain (rates_of r) start power_on (events_of r) in
    let run : importing start 1 [] (lines_of (lines_text (logged_in (rates_of r) start power_on (events_of r)))) ≡ whole (bytes_all (events_for start (plain start (events_of r))))
    = ap (λ (gs : List Logged). importing start 1 [] (lines_of (lines_text gs))) log
    ∙ ap (importing start 1 []) (lines_back (plain start (events_of r)))
    ∙ importing_all start 1 [] (plain start (events_of r)) asc fits in
    let wrote : (importing start 1 [] (lines_of (lines_text (logged_in (rates_of r) start power_on (events_of r))))).bytes ≡ bytes_all (events_for start (plain start (events_of r)))
    = ap (λ (i : Import). i.bytes) run in
    let same_log : log_of start (importing start 1 [] (lines_of (lines_text (logged_in (rates_of r) start power_on (events_of r))))).bytes ≡ log_of start r
    = ap (log_of start) wrote
    ∙ log_back (rates_of (bytes_all (events_for start (plain start (events_of r))))) start (plain start (events_of r)) asc fits
    ∙ sym log in
    record {
      goes_on = ap (λ (i : Import). i.line) run;
      same = same_log;
      clocks = same_clocks _ (rates_of r) start _ (events_of r) same_log;
    }
