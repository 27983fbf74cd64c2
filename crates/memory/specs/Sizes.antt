-- THE NUMBERS OF docs/LAYOUT.md for the memory of the whole box: where each region begins, and the whole, each said once. Assumes nothing.
use Rattle.std.specs.Prelude.{ℕ, ◌+◌, ◌*◌}
use Rattle.machine.specs.Limits.{lines}
use Rattle.layout.specs.Sizes.{number_size, region_size, regions_size}
use Rattle.iso_layout.specs.Sizes.{iso_region_size}

-- the clock, then the raw region of each line, then the ISO 15765 region of each line
abbrev pub raw_at : ℕ → ℕ
raw_at line = number_size + line * region_size

abbrev pub isos_at : ℕ
isos_at = number_size + regions_size

abbrev pub iso_at_byte : ℕ → ℕ
iso_at_byte line = isos_at + line * iso_region_size

abbrev pub box_size : ℕ
box_size = isos_at + lines * iso_region_size
