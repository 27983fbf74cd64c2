-- One line: what was read of it, and what its events do to the buffer. Assumes nothing.
use Rattle.std.specs.Prelude.{if◌then◌else◌}
use Prim.Native.Nat.{ℕ, ◌+◌, ◌-◌, ◌*◌, ◌≤◌, ◌<◌}
use mathlib.Core.Path.{◌≡◌, refl, sym, ap, ap₂, ◌∙◌, subst}
use mathlib.Core.Bool.{Bool, true, false}
use mathlib.Core.List.{List, [], ◌∷◌, ◌++◌, append-nil}
use mathlib.Core.Option.{Option, none, some, bind}
use native.Mathlib.Omega.{arith}
use borrow.Author.Tests.{le-ltb, lt-ltb, leb-true}
use lib.Dec.{leb, ltb}
use lib.ListN.{length, take, drop, length-drop}
use Rattle.machine.specs.Limits.{most_bytes, last_line}
use Rattle.machine.specs.Step.{Event, frame}
use Rattle.candump.specs.Line.{second, Logged, Good, Said, malformed, unknown, tells, only, data_in, few_in, line_in}
use Rattle.candump.specs.Log.{latest, room, event_bytes, bytes_all, advances, frame_of, line_events, goes_back, does_not_fit}
use Rattle.candump.proofs.Line.{line_good}
use Rattle.candump.proofs.Cost.{bytes_append}
use Rattle.answers.specs.Put.{Put}
use Rattle.answers.proofs.Put.{put_same, put_length, put_then}
use Rattle.log_reader.specs.Reading.{data_of, DataThere, frame_told, meaning, near_logged, near_said, There, Reads, stop_of, StopsAs}
use Rattle.std.specs.Prelude as std
use Rattle.log_reader.specs.declared.Logged as lines
use Rattle.log_reader.specs.declared.LineError.{LineError}
use Rattle.log_reader.specs.declared.LineError.TheVariants.{Malformed, Unknown}
use Rattle.std.specs.Result.{IsErrAnd}
use Rattle.candump.specs.declared.Stop.{Stop}
use Rattle.candump.specs.Stops.{reason_of}
use Rattle.importing.specs.declared.Step.{Step}
use Rattle.log_reader.proofs.Framing.{rest_lent}
use Rattle.log_events.specs.Data.{GoodData, mark_of}
use Rattle.importing.specs.Step.{Left, left, stepped, logged_as, put_at, line_step}
use Rattle.importing.proofs.Far.{line_bytes, near_step}

-- ---- what was read

few_data : (l b : List ℕ) → few_in l ≡ some b → (data_in l ≡ some b) × (length b ≤ most_bytes)
unfolding few_in bind only
few_data l b = by (data_in l)
  where
    test : (m : List ℕ) (g : Bool) → leb (length m) most_bytes ≡ g → ◌≡◌ {A = Option (List ℕ)} (if g then some m else none) (some b) → (m ≡ b) × (length b ≤ most_bytes)
    test m true q e = let is : m ≡ b = cc in (is, omega (arith, leb-true (length m) most_bytes q, ap length is))
    test m false q e = let z : ◌≡◌ {A = ℕ} 0 1 = cc in absurd (omega arith)

    by : (o : Option (List ℕ)) → bind o (λ m. only (leb (length m) most_bytes) m) ≡ some b → (o ≡ some b) × (length b ≤ most_bytes)
    by none e = let z : ◌≡◌ {A = ℕ} 0 1 = cc in absurd (omega arith)
    by (some m) e = let r = test m (leb (length m) most_bytes) refl e in (ap some r.0, r.1)

-- a line that tells a frame: its data are good, and its line is one of the four
pub record Told (text : List ℕ) (line from : ℕ) : Type 0 where
  pub inside : from ≤ length text
  pub good : GoodData (take (length text - from) (drop from text))
  pub few : length (data_of (take (length text - from) (drop from text))) ≤ most_bytes
  pub bus : line ≤ last_line

bus_of : (text : List ℕ) (g : Logged) → tells g ≡ near_said (line_in text) → g.line ≤ last_line
unfolding near_said near_logged
bus_of text g = by (line_in text) refl
  where
    by : (s : Said) → line_in text ≡ s → tells g ≡ near_said s → g.line ≤ last_line
    by malformed q e = let z : ◌≡◌ {A = ℕ} 0 1 = cc in absurd (omega arith)
    by unknown q e = let z : ◌≡◌ {A = ℕ} 0 1 = cc in absurd (omega arith)
    by (tells f) q e =
        let same : g ≡ near_logged f = cc in
        omega (arith, ap (λ (x : Logged). x.line) same, (line_good text f q).bus)

module _ (text : List ℕ) (r : lines.Logged) (k : Reads text (std.Ok r)) where
  pub is_told : Told text r.line r.digits
  unfolding meaning frame_told
  is_told =
      let d = few_data (drop r.digits text) (data_of (drop r.digits text)) k.there.1 in
      record {
        inside = k.there.0;
        good = subst GoodData (sym (rest_lent text r.digits)) d.0;
        few = subst (λ (l : List ℕ). length (data_of l) ≤ most_bytes) (sym (rest_lent text r.digits)) d.1;
        bus = bus_of text (frame_told text r) k.is;
      }

  -- and it is what the reader says
  pub told_is : tells (logged_as r.time r.line r.identifier.wide r.identifier.id (data_of (take (length text - r.digits) (drop r.digits text)))) ≡ near_said (line_in text)
  unfolding meaning frame_told
  told_is = ap (λ (l : List ℕ). tells (logged_as r.time r.line r.identifier.wide r.identifier.id (data_of l))) (rest_lent text r.digits) ∙ k.is

-- a line that tells nothing stops the import
pub stopped_line : (time place : ℕ) (out text : List ℕ) → time ≤ latest + second * room → (why : LineError) → Reads text (std.Err why) → (r : std.Result Step Stop) → IsErrAnd r (StopsAs why)
    → stepped time place r out ≡ line_step time place out (line_in text)
unfolding line_step meaning
stopped_line time place out text early why reads (std.Ok s) h = absurd h
stopped_line time place out text early why reads (std.Err e) h = ap (λ (s : Stop). left (reason_of s) place time out) h ∙ by why reads
  where
    by : (w : LineError) → Reads text (std.Err w) → left (reason_of (stop_of w)) place time out ≡ line_step time place out (line_in text)
    by Malformed k = ap (line_step time place out) k.is ∙ near_step time place out early (line_in text)
    by Unknown k = ap (line_step time place out) k.is ∙ near_step time place out early (line_in text)

-- ---- its events

module _ (t place : ℕ) (b : List ℕ) (when line : ℕ) (wide : Bool) (id : ℕ) (d : List ℕ) where
  abbrev g : Logged
  g = logged_as when line wide id d

  abbrev framed : List ℕ
  framed = event_bytes (frame line (mark_of wide) id d)

  line_events_law : bytes_all (advances (when - t)) ++ framed ≡ bytes_all (line_events t g)
  unfolding line_events bytes_all frame_of
  line_events_law = sym (bytes_append (advances (when - t)) (frame_of g ∷ []) ∙ ap (λ (l : List ℕ). bytes_all (advances (when - t)) ++ l) (append-nil framed))

  pub goes_back_law : when < t → left goes_back place t b ≡ line_step t place b (tells g)
  unfolding line_step
  goes_back_law h = sym (rw (lt-ltb when t h))

  module _ (later : t ≤ when) (size : ℕ) (is : size ≡ length (bytes_all (advances (when - t))) + length framed) where
    sum : length (bytes_all (line_events t g)) ≡ size
    unfolding frame_of
    sum = omega (arith, line_bytes t g)

    pub too_long : room < place + size → left does_not_fit place t b ≡ line_step t place b (tells g)
    unfolding line_step
    too_long h = sym (rw (le-ltb when t later, lt-ltb room (place + length (bytes_all (line_events t g))) (omega (arith, sum))))

    module _ (fits : place + size ≤ room) (long : room ≤ length b) where
      pub advances_fit : place + length (bytes_all (advances (when - t))) ≤ length b
      advances_fit = omega arith

      module _ (n : ℕ) (b₁ : List ℕ) (p : Put b place (bytes_all (advances (when - t))) n b₁) where
        pub frame_fits : n + length framed ≤ length b₁
        frame_fits = omega (arith, p.ends, put_length p advances_fit)

        pub goes_on : (m : ℕ) (b₂ : List ℕ) → Put b₁ n framed m b₂ → left 0 m when b₂ ≡ line_step t place b (tells g)
        unfolding line_step put_at
        goes_on m b₂ q =
            let all : Put b place (bytes_all (line_events t g)) m b₂ = put_same line_events_law (put_then p advances_fit q) in
            sym (rw (le-ltb when t later, le-ltb room (place + length (bytes_all (line_events t g))) (omega (arith, sum)))
            (ap₂ (λ (m : ℕ) (b : List ℕ). left 0 m when b) (sym all.ends) (sym all.holds)))
