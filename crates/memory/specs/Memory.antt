-- The memory of the whole box: how its state lies in bytes. Its size, the bytes of a box, the box of bytes, and which bytes are valid are the fields of
-- one code: the clock, then the four regions of the raw channels, then the four of the ISO 15765 channels. Assumes nothing.
use Rattle.std.specs.Prelude.{ℕ, Bool, ◌&&◌, List, length, eqb}
use Rattle.codec.specs.Code.{Code, word32, both, via, many}
use Rattle.machine.specs.Limits.{lines}
use Rattle.machine.specs.Channel.{Chan}
use Rattle.layout.specs.Memory.{region}
use Rattle.iso.specs.Iso.{Iso}
use Rattle.iso_layout.specs.Region.{iso_region}
use Rattle.whole.specs.Device.{Device}

abbrev pub device_parts : Device → ℕ × (List Chan × List Iso)
device_parts d = (d.clock, (d.chans, d.isos))

abbrev pub device_back : ℕ × (List Chan × List Iso) → Device
device_back p = record { clock = p.0; chans = p.1.0; isos = p.1.1 }

unfoldable pub memory : Code Device
memory = via device_parts device_back (both word32 (both (many lines region) (many lines iso_region)))

-- the bytes of a box; the box of bytes; which bytes are a memory
unfoldable pub image : Device → List ℕ
image d = memory.put d

unfoldable pub load : List ℕ → Device
load m = memory.get m

unfoldable pub valid : List ℕ → Bool
valid m = eqb (length m) memory.size && memory.valid m
