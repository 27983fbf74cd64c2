-- What is left of an export, and that from the start it is all of it: no device plays a part. Assumes nothing.
use Rattle.std.specs.Prelude.{if◌then◌else◌}
use Prim.Native.Nat.{ℕ, zero, suc, ◌+◌, ◌≤◌, ◌<◌}
use mathlib.Core.Path.{◌≡◌, refl, sym, ap, ◌∙◌}
use mathlib.Core.Bool.{Bool, true, false}
use mathlib.Core.List.{List, [], ◌∷◌, ◌++◌, append_assoc}
use mathlib.Core.Option.{Option, none, some}
use native.Mathlib.Omega.{arith}
use borrow.Author.Tests.{le-leb, lt-leb, leb-true, leb-false, le-ltb, lt-ltb, ltb-true, ltb-false}
use lib.Dec.{leb, ltb}
use lib.ListN.{length}
use Rattle.recording_sizes.specs.Sizes.{longest}
use Rattle.machine.specs.Step as raw_step
use Rattle.machine.specs.Step.{Event, connect, call, frame, advance, close}
use Rattle.whole.specs.Device.{Device, power_on, speaker, own_answer, answer_by, answer, step}
use Rattle.edition.specs.Edition.{rates_of, start_of, mark_at}
use Rattle.events.specs.Events.{read_event}
use Rattle.events.proofs.Ending.{event_ends}
use Rattle.event_list.specs.Run.{and_then, events_from, events_of}
use Rattle.candump.specs.Line.{Logged, line_text}
use Rattle.candump.specs.Log.{entry, lasts, logged_in, log_of, newline, lines_text, exported}
use Rattle.exporting.specs.Pieces.{code_of, line_of, event_at}
use Rattle.exporting.specs.Joined.{text_of, text_from, rest}
use Rattle.exporting.proofs.Turning.{least_one}

-- ---- the lines of events

lines_append : (gs hs : List Logged) → lines_text (gs ++ hs) ≡ lines_text gs ++ lines_text hs
unfolding lines_text
lines_append [] hs = refl
lines_append (g ∷ gs) hs =
    ap (λ (l : List ℕ). line_text g ++ (newline ∷ l)) (lines_append gs hs) ∙ sym (append_assoc (line_text g) (newline ∷ lines_text gs) (lines_text hs))

unfoldable plain : ℕ → List Event → List ℕ
plain t [] = []
plain t (e ∷ es) = line_of t e ++ plain (t + lasts e (code_of e)) es

-- no device plays a part
logged_plain : (rates : List ℕ) (t : ℕ) (d : Device) (es : List Event) → lines_text (logged_in rates t d es) ≡ plain t es
unfolding logged_in plain code_of line_of entry lasts lines_text step answer answer_by speaker own_answer raw_step.own_answer
logged_plain rates t d [] = refl
logged_plain rates t d (connect l p f r ∷ es) = logged_plain rates (t + 0) _ es
logged_plain rates t d (call k x ∷ es) = logged_plain rates (t + 0) _ es
logged_plain rates t d (frame l w n b ∷ es) =
    lines_append (entry t (frame l w n b) (code_of (frame l w n b))) (logged_in rates (t + 0) _ es)
    ∙ ap (λ (m : List ℕ). line_of t (frame l w n b) ++ m) (logged_plain rates (t + 0) _ es)
logged_plain rates t d (advance u ∷ es) = logged_plain rates (t + lasts (advance u) (code_of (advance u))) _ es
logged_plain rates t d (close ∷ es) = logged_plain rates (t + 0) _ es

-- ---- from a place on, as many turns as are enough

module _ (s : List ℕ) where
  pub text_end : (turns at t : ℕ) → length s ≤ at → text_from turns s at t ≡ []
  unfolding text_from
  text_end zero at t h = refl
  text_end (suc turns) at t h = rw (le-leb (length s) at h)

  pub text_on : (turns at t : ℕ) → at < length s → text_from (suc turns) s at t ≡ text_of (read_event s at) t (text_from turns s)
  unfolding text_from
  text_on turns at t h = rw (lt-leb (length s) at h)

  pub same_turns : (n m at t : ℕ) → length s ≤ at + n → length s ≤ at + m → text_from n s at t ≡ text_from m s at t
  unfolding text_of
  same_turns zero m at t h k = text_end zero at t (omega arith) ∙ sym (text_end m at t (omega arith))
  same_turns (suc n) zero at t h k = text_end (suc n) at t (omega arith) ∙ sym (text_end zero at t (omega arith))
  same_turns (suc n) (suc m) at t h k = by_end (leb (length s) at) refl (λ next u far. same_turns n m next u (omega arith) (omega arith))
    where
      by_read : ((next u : ℕ) → at < next → text_from n s next u ≡ text_from m s next u) → (x : Option (Event × ℕ)) → read_event s at ≡ x → text_of x t (text_from n s) ≡ text_of x t (text_from m s)
      by_read more none e = refl
      by_read more (some r) e =
          let ends = event_ends s at r.0 r.1 e in
          ap (λ (l : List ℕ). line_of t r.0 ++ l) (more r.1 (t + lasts r.0 (code_of r.0)) (omega (arith, ends.0, least_one r.0)))

      by_end : (b : Bool) → leb (length s) at ≡ b → ((next u : ℕ) → at < next → text_from n s next u ≡ text_from m s next u) → text_from (suc n) s at t ≡ text_from (suc m) s at t
      by_end true e more = let past = leb-true (length s) at e in text_end (suc n) at t past ∙ sym (text_end (suc m) at t past)
      by_end false e more = let here = leb-false (length s) at e in text_on n at t here ∙ by_read more (read_event s at) refl ∙ sym (text_on m at t here)

  -- they are the lines of the events from there on
  text_plain : (turns at t : ℕ) → text_from turns s at t ≡ plain t (events_from turns s at)
  unfolding text_from plain events_from text_of and_then
  text_plain zero at t = refl
  text_plain (suc turns) at t = by_end (leb (length s) at) (text_plain turns)
    where
      by_read : (x : Option (Event × ℕ)) → ((next u : ℕ) → text_from turns s next u ≡ plain u (events_from turns s next))
          → text_of x t (text_from turns s) ≡ plain t (and_then x (λ next. events_from turns s next))
      by_read none more = refl
      by_read (some r) more = ap (λ (l : List ℕ). line_of t r.0 ++ l) (more r.1 (t + lasts r.0 (code_of r.0)))

      by_end : (b : Bool) → ((next u : ℕ) → text_from turns s next u ≡ plain u (events_from turns s next))
          → (if b then [] else text_of (read_event s at) t (text_from turns s)) ≡ plain t (if b then [] else and_then (read_event s at) (λ next. events_from turns s next))
      by_end true more = refl
      by_end false more = by_read (read_event s at) more

  -- ---- what is left

  pub left_none : (t at : ℕ) → length s ≤ at → rest t s at ≡ []
  unfolding rest
  left_none t at h = rw (le-leb (length s) at h)

  pub left_long : (t at : ℕ) → longest < length s → rest t s at ≡ []
  unfolding rest
  left_long t at long = by (leb (length s) at)
    where
      by : (g : Bool) → (if g then [] else if ltb longest (length s) then [] else text_from (length s) s (event_at s at) t) ≡ []
      by true = refl
      by false = rw (lt-ltb longest (length s) long)

  pub left_text : (t at : ℕ) → at < length s → length s ≤ longest → rest t s at ≡ text_from (length s) s (event_at s at) t
  unfolding rest
  left_text t at here short = rw (lt-leb (length s) at here, le-ltb longest (length s) short)

  from_start : event_at s 0 ≡ start_of s
  unfolding event_at start_of mark_at
  from_start = refl

  -- FROM THE START it is the export
  pub all_left : (start : ℕ) → exported start s ≡ rest start s 0
  unfolding exported log_of events_of logged_in lines_text
  all_left start = by (ltb longest (length s)) refl
    where
      events : (e : length s ≤ longest) → lines_text (logged_in (rates_of s) start power_on (events_from (length s) s (start_of s))) ≡ text_from (length s) s (event_at s 0) start
      events e =
          logged_plain (rates_of s) start power_on (events_from (length s) s (start_of s))
          ∙ sym (text_plain (length s) (start_of s) start)
          ∙ ap (λ (at : ℕ). text_from (length s) s at start) (sym from_start)

      nothing : length s ≤ 0 → text_from (length s) s (event_at s 0) start ≡ []
      nothing h = text_end (length s) (event_at s 0) start (omega arith)

      by_end : length s ≤ longest → (b : Bool) → leb (length s) 0 ≡ b → text_from (length s) s (event_at s 0) start ≡ rest start s 0
      by_end short true e = nothing (leb-true (length s) 0 e) ∙ sym (left_none start 0 (leb-true (length s) 0 e))
      by_end short false e = sym (left_text start 0 (leb-false (length s) 0 e) short)

      by : (g : Bool) → ltb longest (length s) ≡ g → lines_text (logged_in (rates_of s) start power_on (if g then [] else events_from (length s) s (start_of s))) ≡ rest start s 0
      by true e = sym (left_long start 0 (ltb-true longest (length s) e))
      by false e = events (ltb-false longest (length s) e) ∙ by_end (ltb-false longest (length s) e) (leb (length s) 0) refl
