-- What is known of a report between two events, and when all are counted. Assumes nothing.
use Rattle.std.specs.Prelude.{ℕ, ◌+◌, ◌≤◌, ◌≡◌, List, T, length}
use Rattle.std.proofs.Math.Option.{Option, none, some}
use Rattle.machine.specs.Step.{Event}
use Rattle.layout.specs.Reach.{Bytes}
use Rattle.whole.specs.Device.{Device, step, run}
use Rattle.memory.specs.Memory.{image, load, valid}
use Rattle.edition.specs.Edition.{rates_of}
use Rattle.event_list.specs.Run.{events_from}
use Rattle.shift_places.specs.Places.{at_held, of_report}
use Rattle.shift.specs.Report.{eleven, of_four, all_numbers}
use Rattle.shift_cells.specs.Sums.{plus, Sums}
use Rattle.shift_counts.specs.Adds.{adds, on_each, held_at}
use Rattle.shift_report.specs.Promise.{box_after}

-- what was read at a place was counted and played; where there is no event, nothing is, and the recording has ended
unfoldable pub CountedAs : List ℕ → Option (Event × ℕ) → (s m xs : List ℕ) (next : ℕ) (m' xs' : List ℕ) → Type 0
CountedAs rates none s m xs next m' xs' = (next ≡ length s) × (m' ≡ m) × (xs' ≡ xs)
CountedAs rates (some r) s m xs next m' xs' =
    (next ≡ r.1) × Bytes r.0 × (m' ≡ image (step rates (load m) r.0).0) × (xs' ≡ plus xs (adds rates (load m) r.0))

-- all 44 numbers of a run
unfoldable pub everything : List ℕ → Device → List Event → List ℕ
everything rates d es = of_four (λ i. eleven rates i d es)

-- between two events: with what is still to come, the numbers make those of the recording, and the memory ends as its box does
pub record Counting (s m xs : List ℕ) (at : ℕ) : Type 0 where
  pub ok : T (valid m)
  pub long : length xs ≡ of_report
  pub turns : ℕ
  pub enough : length s ≤ at + turns
  pub sums : plus xs (everything (rates_of s) (load m) (events_from turns s at)) ≡ all_numbers s
  pub ends : run (rates_of s) (load m) (events_from turns s at) ≡ box_after s

-- all events are counted: what is held is missing alone
pub record AllCounted (s m xs : List ℕ) : Type 0 where
  pub ok : T (valid m)
  pub memory : m ≡ image (box_after s)
  pub room : Sums xs
  pub sums : plus xs (on_each (held_at at_held) (load m)) ≡ all_numbers s
