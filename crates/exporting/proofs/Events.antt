-- What one event exports: a line, time, or nothing. Assumes nothing.
use Rattle.std.specs.Prelude.{if◌then◌else◌}
use Prim.Native.Nat.{ℕ, zero, suc, ◌+◌, ◌*◌, ◌/◌, ◌%◌, ◌^◌, ◌≤◌, ◌<◌}
use mathlib.Core.Path.{◌≡◌, refl, sym, ap, ◌∙◌, subst}
use mathlib.Core.Bool.{Bool, true, false}
use mathlib.Core.List.{List, [], ◌∷◌, ◌++◌, append-nil}
use native.Mathlib.Omega.{arith}
use borrow.Author.Tests.{le-ltb, lt-ltb, ne_eqb, eqb-true, eqb-false, ltb-true, ltb-false}
use lib.Dec.{eqb, ltb}
use lib.ListN.{length, take, drop, length-append, take-append-drop}
use Rattle.recording_sizes.specs.Sizes.{longest}
use Rattle.machine.specs.Codes.{code_of as first_code}
use Rattle.machine.specs.Limits.{last_line, most_bytes, most_advance}
use Rattle.machine.specs.Message.{id_limit}
use Rattle.machine.specs.Channel.{Call, says, frame_code}
use Rattle.machine.specs.Step as raw_step
use Rattle.machine.specs.Step.{Event, connect, call, frame, advance, close}
use Rattle.whole.specs.Device.{own_answer}
use Rattle.events.specs.Found.{giving_of}
use Rattle.events.specs.declared.Giving.{Giving}
use Rattle.events.specs.declared.Giving.TheVariants as giving
use Rattle.text.specs.Text.{fixed, decimal}
use Rattle.text.proofs.Text.{fixed_long}
use Rattle.answers.specs.Put.{Put}
use Rattle.candump.specs.Line.{second, Logged, opens, point, closes, blank, hash, id_digits, data_text, frame_text, name_text, micro_text, line_text}
use Rattle.candump.specs.Log.{latest, newline, entry, lasts, lines_text}
use Rattle.log_writer.specs.Pieces.{logged_as}
use Rattle.log_writer.proofs.Digits.{few_digits}
use Rattle.exporting.specs.Pieces.{line_room, code_of, line_of, Exports}

-- ---- nothing

pub nothing_put : (b : List ℕ) (place : ℕ) → Put b place [] place b
nothing_put b place =
    let z : place + 0 ≡ place = omega arith in
    record { ends = omega arith; holds = sym (ap (λ (l : List ℕ). l ++ drop (place + 0) b) (append-nil (take place b)) ∙ ap (λ (k : ℕ). take place b ++ drop k b) z ∙ take-append-drop place b) }

module _ (t : ℕ) (b : List ℕ) (place : ℕ) where
  same_time : t ≡ t + 0
  same_time = omega arith

  pub quiet_call : (k : ℕ) (x : Call) → Exports (call k x) t b place t place b
  unfolding line_of entry lines_text lasts
  quiet_call k x = record { put = nothing_put b place; passes = same_time }

  pub quiet_connect : (l p f r : ℕ) → Exports (connect l p f r) t b place t place b
  unfolding line_of entry lines_text lasts
  quiet_connect l p f r = record { put = nothing_put b place; passes = same_time }

  pub quiet_close : Exports close t b place t place b
  unfolding line_of entry lines_text lasts
  quiet_close = record { put = nothing_put b place; passes = same_time }

  -- an advance
  pub advanced : (u time : ℕ) → time ≡ t + lasts (advance u) (code_of (advance u)) → Exports (advance u) t b place time place b
  unfolding line_of entry lines_text
  advanced u time e = record { put = nothing_put b place; passes = e }

  -- a frame
  pub framed : (l w n : ℕ) (d : List ℕ) (next : ℕ) (later : List ℕ) → Put b place (line_of t (frame l w n d)) next later → Exports (frame l w n d) t b place t next later
  unfolding lasts
  framed l w n d next later p = record { put = p; passes = same_time }

-- ---- the time of an advance

module _ (t u : ℕ) where
  pub too_long : most_advance < u → t ≡ t + lasts (advance u) (code_of (advance u))
  unfolding lasts code_of own_answer raw_step.own_answer says first_code
  too_long h = rw (lt-ltb most_advance u h) (omega arith)

  pub accepted : u ≤ most_advance → t + u ≡ t + lasts (advance u) (code_of (advance u))
  unfolding lasts code_of own_answer raw_step.own_answer says first_code
  accepted h = rw (le-ltb most_advance u h)

-- ---- the line of a frame

module _ (t l w n : ℕ) (d : List ℕ) where
  code_is : code_of (frame l w n d) ≡ first_code ((ltb last_line l, 0x13) ∷ (true, frame_code w n d) ∷ [])
  unfolding code_of own_answer raw_step.own_answer says
  code_is = refl

  none_by : (code : ℕ) → code_of (frame l w n d) ≡ code → eqb code 0x00 ≡ false → line_of t (frame l w n d) ≡ []
  unfolding line_of entry lines_text
  none_by code e q = ap (λ (g : Bool). lines_text (if◌then◌else◌ {A = List Logged} g (record { time = t; line = l; wide = eqb w 1; id = n; bytes = d } ∷ []) [])) (ap (λ (c : ℕ). eqb c 0x00) e ∙ q)

  pub no_line : last_line < l → line_of t (frame l w n d) ≡ []
  unfolding first_code
  no_line h = none_by 0x13 (code_is ∙ rw (lt-ltb last_line l h)) refl

  module _ (line : l ≤ last_line) where
    own_code : code_of (frame l w n d) ≡ frame_code w n d
    unfolding first_code
    own_code = code_is ∙ rw (le-ltb last_line l line) (by (frame_code w n d))
      where
        by : (c : ℕ) → first_code ((true, c) ∷ []) ≡ c
        by c = refl

    pub refused : (frame_code w n d ≡ 0 → ⊥) → line_of t (frame l w n d) ≡ []
    refused h = none_by (frame_code w n d) own_code (ne_eqb (frame_code w n d) 0 h)

    module _ (good : frame_code w n d ≡ 0) where
      pub a_line : line_of t (frame l w n d) ≡ line_text (logged_as t l (eqb w 1) n d) ++ (newline ∷ [])
      unfolding line_of entry lines_text
      a_line = ap (λ (c : ℕ). lines_text (if◌then◌else◌ {A = List Logged} (eqb c 0x00) (logged_as t l (eqb w 1) n d ∷ []) [])) (own_code ∙ good)

      -- at most eight bytes
      few : length d ≤ most_bytes
      unfolding frame_code first_code
      few = by (ltb 1 w) (ltb (id_limit (eqb w 1)) n) (ltb most_bytes (length d)) refl good
        where
          by : (a b c : Bool) → ltb most_bytes (length d) ≡ c → first_code ((a, 0x0A) ∷ (b, 0x0A) ∷ (c, 0x0A) ∷ []) ≡ 0 → length d ≤ most_bytes
          by true b c q e = let z : ◌≡◌ {A = ℕ} 0 1 = cc in absurd (omega arith)
          by false true c q e = let z : ◌≡◌ {A = ℕ} 0 1 = cc in absurd (omega arith)
          by false false true q e = let z : ◌≡◌ {A = ℕ} 0 1 = cc in absurd (omega arith)
          by false false false q e = ltb-false most_bytes (length d) q

      data_long : (d : List ℕ) → length (data_text d) ≡ 2 * length d
      unfolding data_text
      data_long [] = refl
      data_long (x ∷ xs) = omega (arith, length-append (fixed 16 2 x) (data_text xs), fixed_long 16 2 x, data_long xs)

      digits_most : (g : Bool) → id_digits g ≤ 8
      unfolding id_digits
      digits_most true = omega arith
      digits_most false = omega arith

      -- it has room
      pub line_fits : t ≤ latest + second * longest → length (line_text (logged_as t l (eqb w 1) n d) ++ (newline ∷ [])) ≤ line_room
      unfolding line_text name_text frame_text micro_text
      line_fits early =
          let g : Logged = logged_as t l (eqb w 1) n d in
          let seconds : length (decimal (t / second)) ≤ 10 = few_digits 9 (t / second) (omega arith) in
          let frame_long : length (fixed 16 (id_digits (eqb w 1)) n ++ (hash ∷ data_text d)) ≤ 25
          = omega (arith, length-append (fixed 16 (id_digits (eqb w 1)) n) (hash ∷ data_text d), fixed_long 16 (id_digits (eqb w 1)) n, digits_most (eqb w 1), data_long d, few) in
          omega (
            arith,
            length-append (line_text (logged_as t l (eqb w 1) n d)) (newline ∷ []),
            length-append (decimal (t / second)) (point ∷ (fixed 10 6 (t % second) ++ (closes ∷ blank ∷ (name_text l ++ (blank ∷ (fixed 16 (id_digits (eqb w 1)) n ++ (hash ∷ data_text d))))))),
            length-append (fixed 10 6 (t % second)) (closes ∷ blank ∷ (name_text l ++ (blank ∷ (fixed 16 (id_digits (eqb w 1)) n ++ (hash ∷ data_text d))))),
            fixed_long 10 6 (t % second),
          )

frame_short : (t l w n : ℕ) (d : List ℕ) → t ≤ latest + second * longest → length (line_of t (frame l w n d)) ≤ line_room
frame_short t l w n d h = by (ltb last_line l) refl
  where
    code : l ≤ last_line → (g : Bool) → eqb (frame_code w n d) 0 ≡ g → length (line_of t (frame l w n d)) ≤ line_room
    code k true q = omega (arith, ap length (a_line t l w n d k (eqb-true (frame_code w n d) 0 q)), line_fits t l w n d k (eqb-true (frame_code w n d) 0 q) h)
    code k false q = omega (arith, ap length (refused t l w n d k (eqb-false (frame_code w n d) 0 q)))

    by : (g : Bool) → ltb last_line l ≡ g → length (line_of t (frame l w n d)) ≤ line_room
    by true q = omega (arith, ap length (no_line t l w n d (ltb-true last_line l q)))
    by false q = code (ltb-false last_line l q) (eqb (frame_code w n d) 0) refl

advance_most : (u : ℕ) → lasts (advance u) (code_of (advance u)) ≤ second
advance_most u = by (ltb most_advance u) refl
  where
    by : (g : Bool) → ltb most_advance u ≡ g → lasts (advance u) (code_of (advance u)) ≤ second
    by true q = omega (arith, too_long 0 u (ltb-true most_advance u q))
    by false q = omega (arith, accepted 0 u (ltb-false most_advance u q), ltb-false most_advance u q)

-- ---- every event

-- no line takes more than its room
pub line_short : (t : ℕ) (e : Event) → t ≤ latest + second * longest → length (line_of t e) ≤ line_room
unfolding line_of entry lines_text
line_short t (connect l p f r) h = omega arith
line_short t (call k x) h = omega arith
line_short t (frame l w n d) h = frame_short t l w n d h
line_short t (advance u) h = omega arith
line_short t close h = omega arith

-- and no event more than a second
pub second_most : (e : Event) → lasts e (code_of e) ≤ second
unfolding lasts
second_most (connect l p f r) = omega arith
second_most (call k x) = omega arith
second_most (frame l w n d) = omega arith
second_most (advance u) = advance_most u
second_most close = omega arith

-- an event that is answered by a number too
pub quiet_giving : (s : List ℕ) (g : Giving) (t : ℕ) (b : List ℕ) (place : ℕ) → Exports (giving_of s g) t b place t place b
quiet_giving s (giving.Connect l p f r) t b place = quiet_connect t b place l p f r
quiet_giving s (giving.StartFilter k x m p e) t b place = quiet_call t b place k _
quiet_giving s (giving.StartFlow k x m p f e) t b place = quiet_call t b place k _
quiet_giving s (giving.StartPeriodic k f e i) t b place = quiet_call t b place k _
quiet_giving s (giving.Get k p) t b place = quiet_call t b place k _
