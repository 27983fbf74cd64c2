-- What one event adds to the 44 numbers, and what it adds to those of one channel, as code finds it out before the event. Assumes nothing.
use Rattle.std.specs.Prelude.{ℕ, ◌+◌, Bool, ◌&&◌, List, [], ◌∷◌, ◌++◌, map, eqb, leb, length, if◌then◌else◌}
use Rattle.machine.specs.Limits.{most_to_read}
use Rattle.machine.specs.Channel.{Chan, closed, opened, Answer}
use Rattle.machine.specs.Step.{Event}
use Rattle.whole.specs.Device.{Device, chan_at, step}
use Rattle.shift_places.specs.Places.{at_offered, at_passed, at_echoed, at_lost}
use Rattle.shift.specs.Numbers.{Number, one, held_in}
use Rattle.shift.specs.Report.{ten, of_four}
use Rattle.shift_cells.specs.Sums.{plus, nothing, cell}
use Rattle.fates.specs.Fates.{fate_of}
use Rattle.shift_looks.specs.Looks.{would_echo}

-- AN EVENT'S PART of each number of the channel of line i; what is held counts at the end alone
unfoldable pub block : ℕ → Chan → Event → Answer → List ℕ
block i c e a = map (λ (f : Number). f i c e a) ten ++ (0 ∷ [])

-- and of all 44
unfoldable pub adds : List ℕ → Device → Event → List ℕ
adds rates d e = of_four (λ i. block i (chan_at i d) e (step rates d e).1)

-- ---- by the channel before the event

-- of the raw channel of a number; of the raw channel of a line; of each
unfoldable pub on_channel : ℕ → (Chan → List ℕ) → Device → List ℕ
on_channel k f d = of_four (λ i. if eqb k (i + 1) then f (chan_at i d) else nothing)

unfoldable pub on_line_of : ℕ → (Chan → List ℕ) → Device → List ℕ
on_line_of l f d = of_four (λ i. if eqb l i then f (chan_at i d) else nothing)

unfoldable pub on_each : (Chan → List ℕ) → Device → List ℕ
on_each f d = of_four (λ i. f (chan_at i d))

-- what is held counts for one number
unfoldable pub held_at : ℕ → Chan → List ℕ
held_at which c = cell which (held_in c)

-- a record that comes is lost where 32 are held
unfoldable pub losing : Bool → ℕ → ℕ
losing comes held = one (comes && leb most_to_read held)

-- a sent: an echo, which may be lost
unfoldable pub echo_adds : Chan → List ℕ
echo_adds c = if would_echo c then plus (cell at_echoed 1) (cell at_lost (one (leb most_to_read (held_in c)))) else nothing

-- a good frame, by its width and bytes: it is offered, and what becomes of it
unfoldable pub frame_adds : Bool → List ℕ → Chan → List ℕ
frame_adds wide bytes closed = nothing
frame_adds wide bytes (opened o) =
    plus (plus (cell at_offered 1) (cell (fate_of o wide bytes) 1))
    (cell at_lost (losing (eqb (fate_of o wide bytes) at_passed) (length o.receiving.queue)))
