-- THE PROMISE of the shift report on a lent memory and 44 lent numbers. Assumes nothing.
use Rattle.std.specs.Prelude.{ℕ, ◌&&◌, List, eqb, length, if◌then◌else◌}
use Rattle.whole.specs.Device.{Device, power_on, run}
use Rattle.memory.specs.Sizes.{box_size}
use Rattle.memory.specs.Memory.{image}
use Rattle.edition.specs.Edition.{rates_of}
use Rattle.event_list.specs.Run.{events_of}
use Rattle.shift_places.specs.Places.{of_report}
use Rattle.shift.specs.Report.{all_numbers}

-- the code, and the numbers and the memory as the report leaves them
pub record Reported : Type 0 where
  pub code : ℕ
  pub numbers : List ℕ
  pub memory : List ℕ

abbrev pub tells : ℕ → List ℕ → List ℕ → Reported
tells c n m = record { code = c; numbers = n; memory = m }

-- the box after a recording, from power-on
unfoldable pub box_after : List ℕ → Device
box_after recording = run (rates_of recording) power_on (events_of recording)

-- 0x04 where the memory has another length than a box's or there are other than 44 numbers, and nothing changes; else 0x00, the numbers of the
-- recording, channel 1's eleven first, and the memory of the box after it, whatever was there before
unfoldable pub reported : List ℕ → List ℕ → List ℕ → Reported
reported memory recording numbers =
    if eqb (length memory) box_size && eqb (length numbers) of_report then tells 0x00 (all_numbers recording) (image (box_after recording))
    else tells 0x04 numbers memory
