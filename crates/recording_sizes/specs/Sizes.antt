-- The numbers of the scope's section "Recording", each said once. Assumes nothing.
use Rattle.std.specs.Prelude.{ℕ, ◌+◌, ◌*◌, Bool, if◌then◌else◌}
use Rattle.codec.specs.Plain.{within}
use Rattle.machine.specs.Limits.{record_size}
use Rattle.iso.specs.Limits.{first_iso, iso_record_size}
use Rattle.whole.specs.Device.{channels}

-- the most bytes of a recording
abbrev pub longest : ℕ
longest = 32_768

-- the most of an n
abbrev pub most : ℕ
most = 64

-- a channel number that is an ISO 15765 channel's: 5 to 8, whether it is open or not
unfoldable pub on_iso : ℕ → Bool
on_iso channel = within first_iso channels channel

-- A RECORD'S BYTES in an event that names a channel, and in its answer: 536 on channels 5 to 8, and 36 on every other number
unfoldable pub record_on : ℕ → ℕ
record_on channel = if on_iso channel then iso_record_size else record_size

-- THE ROOM OF ONE EVENT: the most bytes that the answer to one event takes: the code, the count and the records of a read
abbrev pub event_room : ℕ
event_room = 2 + most * iso_record_size

-- the number that stands for a bad event
abbrev pub bad_number : ℕ
bad_number = 255
