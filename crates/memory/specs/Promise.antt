-- THE PROMISE of every public call on a lent memory of the whole box: its code, its value, the lent buffer and the memory as it leaves them, for every
-- memory, valid or not, and every argument. Assumes nothing.
use Rattle.std.specs.Prelude.{ℕ, zero, suc, ◌+◌, ◌*◌, ◌-◌, ◌≤◌, ◌<◌, ◌≡◌, true, List, [], eqb, length, get_or, set, if◌then◌else◌}
use Rattle.machine.specs.Limits.{lines}
use Rattle.machine.specs.Channel.{Call, raw_only, lent}
use Rattle.machine.specs.Step.{Event, call, lent_by}
use Rattle.layout.specs.Sizes.{number_size, region_size}
use Rattle.layout.specs.Promise.{Result, gives, answered}
use Rattle.iso_layout.specs.Sizes.{iso_region_size}
use Rattle.whole.specs.Device.{power_on, step}
use Rattle.memory.specs.Sizes.{isos_at}
use Rattle.memory.specs.Memory.{memory, image, load, valid}

-- a valid memory: the box's answer, and the bytes of its next state; else 0x1A, and nothing changes
unfoldable pub outcome : List ℕ → List ℕ → Event → Result
outcome rates m e =
    if valid m then answered (step rates (load m) e).1 (image (step rates (load m) e).0) else gives 0x1A 0 (lent_by e) m

-- power-on takes any bytes of the right size
unfoldable pub power_on_outcome : List ℕ → Result
power_on_outcome m = if eqb (length m) memory.size then gives 0x00 0 [] (image power_on) else gives 0x1A 0 [] m

-- ---- the bytes with a code noted as the last of the channel whose region begins at `base`, at its byte `last`; 0x00 is not noted
unfoldable pub noted_in : ℕ → ℕ → ℕ → List ℕ → List ℕ
noted_in last base zero m = m
noted_in last base (suc k) m = set m (base + last) (suc k)

-- ---- where the region of an open channel begins, in a valid memory

-- in a row of four regions, whose channels' numbers come next after `before`
pub record Seat (before first size : ℕ) (m : List ℕ) (k base : ℕ) : Type 0 where
  pub low : before < k
  pub high : k ≤ before + lines
  pub is : base ≡ first + (k - suc before) * size
  pub mark : get_or m base 0 ≡ 1

abbrev pub RawSeat : List ℕ → ℕ → ℕ → Type 0
RawSeat = Seat 0 number_size region_size

abbrev pub IsoSeat : List ℕ → ℕ → ℕ → Type 0
IsoSeat = Seat lines isos_at iso_region_size

-- 0 where a call on the channel is refused; else its seat, whose place tells the kind of channel
pub record Placed (m : List ℕ) (k base : ℕ) : Type 0 where
  pub refused : base ≡ 0 → (rates : List ℕ) (x : Call) → gives 0x02 0 (lent x) m ≡ outcome rates m (call k x)
  pub raw : (base ≡ 0 → ⊥) → base < isos_at → RawSeat m k base
  pub iso : isos_at ≤ base → IsoSeat m k base

-- for a call that takes the number of a raw channel: 0 also where the number is that of another channel
pub record RawPlaced (m : List ℕ) (k base : ℕ) : Type 0 where
  pub refused : base ≡ 0 → (rates : List ℕ) (x : Call) → raw_only x ≡ true → gives 0x02 0 (lent x) m ≡ outcome rates m (call k x)
  pub seat : (base ≡ 0 → ⊥) → RawSeat m k base
