-- A reader on its way through a recording that is played: what is known between two events, and how it goes on and ends. Assumes nothing.
use Prim.Native.Nat.{ℕ, ◌+◌, ◌-◌, ◌≤◌, ◌<◌}
use mathlib.Core.Path.{◌≡◌, refl, sym, subst}
use mathlib.Core.Bool.{Bool, true, false}
use mathlib.Core.Option.{Option, none, some}
use mathlib.Core.List.{List}
use native.Mathlib.Omega.{arith}
use lib.Dec.{T}
use lib.ListN.{length}
use Rattle.machine.specs.Step as machine
use Rattle.memory.specs.Memory.{load, valid}
use Rattle.recording_sizes.specs.Sizes.{event_room}
use Rattle.events.specs.Events.{read_event}
use Rattle.events.proofs.Ending.{one_at_least, event_ends}
use Rattle.edition.specs.Edition.{rates_of, mark_at}
use Rattle.edition.proofs.Marked.{at_mark, new_start, start_inside}
use Rattle.playing.proofs.Turning.{edition_known}
use Rattle.playing.specs.Step.{PassedOver, TurnedAs, TurnedBy, Turned}
use Rattle.recording.specs.Replay.{Piece, goes_on, event_at, leaves, written}
use Rattle.recording.proofs.Playing.{Playing, begun, same_output, same_memory, ended, full, passes, stopped, goes_on_law}

-- the device memory, the output, the place in the recording and in the output
pub record State : Type 0 where
  pub mem : List ℕ
  pub out : List ℕ
  pub at : ℕ
  pub place : ℕ

abbrev pub state : List ℕ → List ℕ → ℕ → ℕ → State
state m o i p = record { mem = m; out = o; at = i; place = p }

abbrev pub Stepped : List ℕ → List ℕ → State → State → Type 0
Stepped rates s d d' = Turned rates s d.at d.mem d.out d.place d'.at d'.place d'.mem d'.out

-- what the events from a state on give
abbrev pub piece_from : List ℕ → State → Piece
piece_from s d = goes_on (rates_of s) (length s) (load d.mem) s (event_at s d.at) (length d.out)

-- `left` bytes lie before the reader. `o₀` is the output as it was
pub record Moving (s o₀ : List ℕ) (whole : Piece) (left : ℕ) (d : State) : Type 0 where
  pub place_is : d.at + left ≡ length s
  pub playing : Playing (rates_of s) s o₀ whole d.mem d.out d.at d.place

pub begun_at : (s m o : List ℕ) (at left : ℕ) → T (valid m) → at + left ≡ length s → Moving s o (piece_from s (state m o at 0)) left (state m o at 0)
begun_at s m o at left ok e = record { place_is = e; playing = begun (rates_of s) s o m at ok (omega arith) }

module _ {s o₀ : List ℕ} {whole : Piece} {left : ℕ} {d : State} (p : Moving s o₀ whole left d) where
  pub out_length : length d.out ≡ length o₀
  out_length = same_output p.playing

  pub mem_length : (m₀ : List ℕ) → T (valid m₀) → length d.mem ≡ length m₀
  mem_length m₀ ok = same_memory p.playing m₀ ok

  pub ended_at : length s ≤ d.at → leaves 0x00 d.at d.place d.mem d.out ≡ written whole o₀
  ended_at h = ended p.playing h

  pub full_at : (last : ℕ) → last + event_room ≡ length o₀ → last < d.place → leaves 0x00 d.at d.place d.mem d.out ≡ written whole o₀
  full_at last e h = full p.playing (omega arith) (omega arith)

-- a turn takes the reader nearer to the end
pub record Nearer (s o₀ : List ℕ) (whole : Piece) (left : ℕ) (d' : State) : Type 0 where
  pub left' : ℕ
  pub fewer : left' < left
  pub moving : Moving s o₀ whole left' d'

module _ {s o₀ : List ℕ} {whole : Piece} {left : ℕ} {d d' : State} (p : Moving s o₀ whole left d) (more : d.at < length s) (room : d.place + event_room ≤ length o₀) (kept : length d'.out ≡ length d.out) where
  turned : mark_at s d.at ≡ false → (x : Option (machine.Event × ℕ)) → read_event s d.at ≡ x → TurnedAs (rates_of s) x s d.mem d.out d.place d'.at d'.place d'.mem d'.out → Nearer s o₀ whole left d'
  unfolding TurnedAs
  turned event none e w =
      let f = p.place_is in
      let at_end_law : d'.at ≡ length s = w.1 in
      record {
        left' = 0;
        fewer = omega arith;
        moving = record { place_is = omega arith; playing = rw (w.0, at_end_law) (stopped p.playing event more room e w.2 kept) };
      }
  turned event (some x) e w =
      let f = p.place_is in
      let next : d'.at ≡ x.1 = w.0 in
      let ends = event_ends s d.at x.0 x.1 e in
      let one = one_at_least x.0 in
      record {
        left' = length s - d'.at;
        fewer = omega (arith, ends.0, ends.1);
        moving = record {
          place_is = omega (arith, ends.1);
          playing = subst (λ (k : ℕ). Playing (rates_of s) s o₀ whole d'.mem d'.out k d'.place) (sym next) (goes_on_law p.playing event more room (edition_known s) e w.1 w.2 kept);
        };
      }

  passed : mark_at s d.at ≡ true → PassedOver d.mem d.out d.place d'.at d'.place d'.mem d'.out → Nearer s o₀ whole left d'
  passed e w =
      let f = p.place_is in
      let here = at_mark s d.at e in
      let two : 2 ≤ length s = omega (arith, new_start s here.1, start_inside s) in
      record {
        left' = length s - 2;
        fewer = omega (arith, here.0);
        moving = record { place_is = omega (arith, w.behind); playing = rw (w.memory, w.output, w.behind, w.here) (passes p.playing e) };
      }

  by_mark : (b : Bool) → mark_at s d.at ≡ b → TurnedBy b (rates_of s) s d.at d.mem d.out d.place d'.at d'.place d'.mem d'.out → Nearer s o₀ whole left d'
  unfolding TurnedBy
  by_mark true e w = passed e w
  by_mark false e w = turned e (read_event s d.at) refl w

  pub turn_at : Stepped (rates_of s) s d d' → Nearer s o₀ whole left d'
  unfolding Turned
  turn_at w = by_mark (mark_at s d.at) refl w
