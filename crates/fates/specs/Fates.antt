-- What becomes of a good bus frame on an open channel, as the place of the number that counts it beside those offered. Assumes nothing.
use Rattle.std.specs.Prelude.{ℕ, Bool, true, false, List}
use Rattle.machine.specs.Channel.{Open}
use Rattle.shift_places.specs.Places.{at_width, at_unmatched, at_blocked, at_passed}
use Rattle.shift.specs.Numbers.{fits, wanted, unwanted}

-- by whether a pass filter matches, and a block filter
unfoldable pub fate_by : Bool → Bool → ℕ
fate_by false block = at_unmatched
fate_by true true = at_blocked
fate_by true false = at_passed

-- by whether the connection takes its width
unfoldable pub fate_if : Bool → ℕ → ℕ
fate_if false fate = at_width
fate_if true fate = fate

unfoldable pub fate_of : Open → Bool → List ℕ → ℕ
fate_of o wide bytes = fate_if (fits o wide bytes) (fate_by (wanted o wide bytes) (unwanted o wide bytes))
