-- The lines of a log, one after the other. Assumes nothing.
use Rattle.std.specs.Prelude.{if◌then◌else◌}
use Prim.Native.Nat.{ℕ, zero, suc, ◌+◌, ◌-◌, ◌*◌, ◌≤◌, ◌<◌}
use mathlib.Core.Path.{◌≡◌, refl, sym, ap, ap₂, ◌∙◌, subst}
use mathlib.Core.Bool.{Bool, true, false}
use mathlib.Core.List.{List, [], ◌∷◌, ◌++◌, append_assoc}
use native.Mathlib.Omega.{arith}
use borrow.Author.Tests.{ltb-true, ltb-false, le-ltb, lt-ltb}
use lib.Dec.{eqb, ltb}
use lib.ListN.{length, take, drop, length-append, length-take, length-drop, take-append-drop, drop_of_length-le}
use lib.Seq.{length-take-le, drop-drop, take_at, drop_at}
use Rattle.text_reader.specs.Reading.{before}
use Rattle.text_reader.proofs.Finding.{found_inside}
use Rattle.candump.specs.Line.{second, Logged, Said, malformed, unknown, tells, line_in}
use Rattle.candump.specs.Log.{latest, newline, glue, lines_of, bytes_all, line_events, frame_of, event_bytes, advances, room, is_malformed, is_unknown, goes_back, does_not_fit, Import, whole, stopped, taking, importing, imported}
use Rattle.candump.specs.Stops.{reason_of}
use Rattle.candump.specs.declared.Stop.{Stop}
use Rattle.candump.specs.declared.Stop.TheVariants.{Malformed, Unknown, GoesBack, NoRoom}
use Rattle.importing.specs.Step.{Left, left, put_at, line_step}
use Rattle.importing.specs.Promise.{Answer, answers, written}
use Rattle.importing.proofs.Far.{line_bytes, covers}

-- a reason is never 0
pub reason_some : (why : Stop) → reason_of why ≡ 0 → ⊥
reason_some Malformed e = omega arith
reason_some Unknown e = omega arith
reason_some GoesBack e = omega arith
reason_some NoRoom e = omega arith

-- ---- the first line of a text

first_line : (l : List ℕ) → 0 < length l → lines_of l ≡ take (before newline l) l ∷ lines_of (drop (suc (before newline l)) l)
unfolding lines_of before glue
first_line [] h = absurd (omega arith)
first_line (x ∷ xs) h = by (eqb x newline) xs (first_line xs)
  where
    by : (g : Bool) (xs : List ℕ) → (0 < length xs → lines_of xs ≡ take (before newline xs) xs ∷ lines_of (drop (suc (before newline xs)) xs))
        → ◌≡◌ {A = List (List ℕ)} (if g then [] ∷ lines_of xs else glue x (lines_of xs))
        (take (if g then zero else suc (before newline xs)) (x ∷ xs) ∷ lines_of (drop (suc (if g then zero else suc (before newline xs))) (x ∷ xs)))
    by true xs ih = refl
    by false [] ih = refl
    by false (y ∷ ys) ih = ap (glue x) (ih (omega arith))

pub lines_from : (log : List ℕ) (at end : ℕ) → at < length log → end ≡ at + before newline (drop at log)
    → lines_of (drop at log) ≡ take (end - at) (drop at log) ∷ lines_of (drop (end + 1) log)
lines_from log at end h e =
    let n : end - at ≡ before newline (drop at log) = omega arith in
    let k : at + suc (before newline (drop at log)) ≡ end + 1 = omega arith in
    first_line (drop at log) (omega (arith, length-drop at log))
    ∙ ap₂ (λ (a b : List ℕ). a ∷ lines_of b) (ap (λ (n : ℕ). take n (drop at log)) (sym n)) (drop-drop (suc (before newline (drop at log))) at log ∙ ap (λ (n : ℕ). drop n log) k)

-- ---- where the import is

pub record Goes (start : ℕ) (log out₀ out : List ℕ) (at lines place time : ℕ) : Type 0 where
  pub same_length : length out ≡ length out₀
  pub few : lines ≤ at
  pub near : at ≤ length log + 1
  pub short : place ≤ room
  pub early : time ≤ latest + second * place
  pub behind : drop place out ≡ drop place out₀
  pub is : importing time (lines + 1) (take place out) (lines_of (drop at log)) ≡ imported start log

pub nothing_yet : (start : ℕ) (log out : List ℕ) → start ≤ latest → Goes start log out out 0 0 0 start
unfolding imported
nothing_yet start log out h =
    record { same_length = refl; few = omega arith; near = omega arith; short = omega arith; early = omega arith; behind = refl; is = refl }

-- the buffer: the recording so far, and what stood behind it
module _ {start : ℕ} {log out₀ out : List ℕ} {at lines place time : ℕ} (k : Goes start log out₀ out at lines place time) (long : room ≤ length out₀) where
  sized : length (take place out) ≡ place
  sized = length-take-le place out (omega (arith, k.same_length, k.short))

  pub on_time : time ≤ latest + second * room
  on_time = omega (arith, k.early, k.short)

  buffer : out ≡ take place out ++ drop (length (take place out)) out₀
  buffer = sym (take-append-drop place out) ∙ ap (λ (l : List ℕ). take place out ++ l) (k.behind ∙ ap (λ (n : ℕ). drop n out₀) (sym sized))

  answered : (line reason : ℕ) → answers 0x00 place line reason out ≡ written (record { bytes = take place out; line = line; reason = reason }) out₀
  unfolding written
  answered line reason = ap₂ (λ (n : ℕ) (b : List ℕ). answers 0x00 n line reason b) (sym sized) buffer

  -- ---- at the end of the log
  pub all_taken : length log ≤ at → answers 0x00 place 0 0 out ≡ written (imported start log) out₀
  unfolding importing lines_of whole
  all_taken h =
      answered 0 0
      ∙ ap (λ (i : Import). written i out₀)
      (ap (λ (l : List ℕ). importing time (lines + 1) (take place out) (lines_of l)) (sym (drop_of_length-le log {i = at} h)) ∙ k.is)

  -- ---- one line
  module _ (more : at < length log) (end : ℕ) (found : end ≡ at + before newline (drop at log)) where
    line : List ℕ
    line = take (end - at) (drop at log)

    onward : Logged → Import
    onward g = importing g.time (lines + 1 + 1) (take place out ++ bytes_all (line_events time g)) (lines_of (drop (end + 1) log))

    pub end_inside : (at ≤ end) × (end ≤ length log)
    end_inside = found_inside newline log at end (omega arith) found

    goes : taking time (lines + 1) (take place out) (line_in line) onward ≡ imported start log
    unfolding importing line onward
    goes = ap (importing time (lines + 1) (take place out)) (sym (lines_from log at end more found)) ∙ k.is

    module _ (r p t : ℕ) (out' : List ℕ) (e : left r p t out' ≡ line_step time place out (line_in (take (end - at) (drop at log)))) where
      -- a line that stops the import leaves all as it was
      stays : (reason : ℕ) → left r p t out' ≡ left reason place time out → stopped (take place out) (lines + 1) reason ≡ imported start log
          → answers 0x00 place (lines + 1) r out' ≡ written (imported start log) out₀
      unfolding stopped
      stays reason q s =
          ap₂ (λ (n : ℕ) (b : List ℕ). answers 0x00 place (lines + 1) n b) (ap (λ (l : Left). l.reason) q) (ap (λ (l : Left). l.buffer) q)
          ∙ answered (lines + 1) reason
          ∙ ap (λ (i : Import). written i out₀) s

      pub stops : (r ≡ 0 → ⊥) → answers 0x00 place (lines + 1) r out' ≡ written (imported start log) out₀
      unfolding line_step taking line
      stops n = by (line_in (take (end - at) (drop at log))) e goes
        where
          fits : (g : Logged) (b : Bool) → left r p t out' ≡ (if b then left does_not_fit place time out else left 0 (place + length (bytes_all (line_events time g))) g.time (put_at out place (bytes_all (line_events time g))))
              → (if b then stopped (take place out) (lines + 1) does_not_fit else onward g) ≡ imported start log
              → answers 0x00 place (lines + 1) r out' ≡ written (imported start log) out₀
          fits g true e s = stays does_not_fit e s
          fits g false e s = absurd (n (ap (λ (l : Left). l.reason) e))

          back : (g : Logged) (a : Bool)
              → left r p t out' ≡ (if a then left goes_back place time out else if ltb room (place + length (bytes_all (line_events time g))) then left does_not_fit place time out else left 0 (place + length (bytes_all (line_events time g))) g.time (put_at out place (bytes_all (line_events time g))))
              → (if a then stopped (take place out) (lines + 1) goes_back else if ltb room (length (take place out ++ bytes_all (line_events time g))) then stopped (take place out) (lines + 1) does_not_fit else onward g) ≡ imported start log
              → answers 0x00 place (lines + 1) r out' ≡ written (imported start log) out₀
          back g true e s = stays goes_back e s
          back g false e s =
              fits g (ltb room (place + length (bytes_all (line_events time g)))) e
              (subst (λ (n : ℕ). (if ltb room n then stopped (take place out) (lines + 1) does_not_fit else onward g) ≡ imported start log)
              (length-append (take place out) (bytes_all (line_events time g)) ∙ ap (λ (n : ℕ). n + length (bytes_all (line_events time g))) sized)
              s)

          by : (s : Said) → left r p t out' ≡ line_step time place out s → taking time (lines + 1) (take place out) s onward ≡ imported start log
              → answers 0x00 place (lines + 1) r out' ≡ written (imported start log) out₀
          by malformed e s = stays is_malformed e s
          by unknown e s = stays is_unknown e s
          by (tells g) e s = back g (ltb g.time time) e s

      -- a line that doesn't is behind the recording
      module _ (g : Logged) (later : time ≤ g.time) (fits : place + length (bytes_all (line_events time g)) ≤ room)
          (q : left r p t out' ≡ left 0 (place + length (bytes_all (line_events time g))) g.time (put_at out place (bytes_all (line_events time g))))
          (s : onward g ≡ imported start log) where
        events : List ℕ
        events = bytes_all (line_events time g)

        next : p ≡ place + length (bytes_all (line_events time g))
        next = ap (λ (l : Left). l.place) q

        after : out' ≡ (take place out ++ bytes_all (line_events time g)) ++ drop p out
        unfolding put_at
        after = ap (λ (l : Left). l.buffer) q ∙ ap (λ (n : ℕ). (take place out ++ bytes_all (line_events time g)) ++ drop n out) (sym next)

        front : length (take place out ++ bytes_all (line_events time g)) ≡ p
        front = omega (arith, length-append (take place out) (bytes_all (line_events time g)), sized, next)

        taken_on : Goes start log out₀ out' (end + 1) (lines + 1) p t
        unfolding onward
        taken_on =
            record {
              same_length = omega (arith, ap length after, length-append (take place out ++ bytes_all (line_events time g)) (drop p out), front, length-drop p out, k.same_length, next);
              few = omega (arith, k.few, end_inside.0);
              near = omega (arith, end_inside.1);
              short = omega (arith, next);
              early = omega (arith, ap (λ (l : Left). l.time) q, k.early, next, line_bytes time g, covers (g.time - time));
              behind =
                  ap (drop p) after ∙ drop_at (take place out ++ bytes_all (line_events time g)) (drop p out) p front
                  ∙ ap (λ (n : ℕ). drop n out) next ∙ sym (drop-drop (length (bytes_all (line_events time g))) place out)
                  ∙ ap (drop (length (bytes_all (line_events time g)))) k.behind ∙ drop-drop (length (bytes_all (line_events time g))) place out₀
                  ∙ ap (λ (n : ℕ). drop n out₀) (sym next);
              is =
                  ap₂ (λ (n : ℕ) (l : List ℕ). importing n (lines + 1 + 1) l (lines_of (drop (end + 1) log))) (ap (λ (l : Left). l.time) q)
                  (ap (take p) after ∙ take_at (take place out ++ bytes_all (line_events time g)) (drop p out) p front)
                  ∙ s;
            }

      pub goes_on : r ≡ 0 → Goes start log out₀ out' (end + 1) (lines + 1) p t
      unfolding line_step taking line
      goes_on z = by (line_in (take (end - at) (drop at log))) e goes
        where
          no : (n : ℕ) → (n ≡ 0 → ⊥) → left r p t out' ≡ left n place time out → Goes start log out₀ out' (end + 1) (lines + 1) p t
          no n h e = absurd (h (sym (ap (λ (l : Left). l.reason) e) ∙ z))

          fits : (g : Logged) → time ≤ g.time → (b : Bool) → ltb room (place + length (bytes_all (line_events time g))) ≡ b
              → left r p t out' ≡ (if b then left does_not_fit place time out else left 0 (place + length (bytes_all (line_events time g))) g.time (put_at out place (bytes_all (line_events time g))))
              → (if b then stopped (take place out) (lines + 1) does_not_fit else onward g) ≡ imported start log
              → Goes start log out₀ out' (end + 1) (lines + 1) p t
          fits g l true x e s = no does_not_fit (λ q. omega arith) e
          fits g l false x e s = taken_on g l (ltb-false room (place + length (bytes_all (line_events time g))) x) e s

          back : (g : Logged) (a : Bool) → ltb g.time time ≡ a
              → left r p t out' ≡ (if a then left goes_back place time out else if ltb room (place + length (bytes_all (line_events time g))) then left does_not_fit place time out else left 0 (place + length (bytes_all (line_events time g))) g.time (put_at out place (bytes_all (line_events time g))))
              → (if a then stopped (take place out) (lines + 1) goes_back else if ltb room (length (take place out ++ bytes_all (line_events time g))) then stopped (take place out) (lines + 1) does_not_fit else onward g) ≡ imported start log
              → Goes start log out₀ out' (end + 1) (lines + 1) p t
          back g true x e s = no goes_back (λ q. omega arith) e
          back g false x e s =
              fits g (ltb-false g.time time x) (ltb room (place + length (bytes_all (line_events time g)))) refl e
              (subst (λ (n : ℕ). (if ltb room n then stopped (take place out) (lines + 1) does_not_fit else onward g) ≡ imported start log)
              (length-append (take place out) (bytes_all (line_events time g)) ∙ ap (λ (n : ℕ). n + length (bytes_all (line_events time g))) sized)
              s)

          by : (s : Said) → left r p t out' ≡ line_step time place out s → taking time (lines + 1) (take place out) s onward ≡ imported start log
              → Goes start log out₀ out' (end + 1) (lines + 1) p t
          by malformed e s = no is_malformed (λ q. omega arith) e
          by unknown e s = no is_unknown (λ q. omega arith) e
          by (tells g) e s = back g (ltb g.time time) refl e s
