-- Request P11: the start time that a program is given, seconds with an optional point and one to six decimals. Assumes nothing.
use Rattle.std.specs.Prelude.{ℕ, ◌+◌, ◌-◌, ◌*◌, ◌^◌, ◌&&◌, List, eqb, leb, ltb, length, if◌then◌else◌, Result, Ok, Err}
use Rattle.std.proofs.Math.Option.{Option, none, some, map, bind}
use Rattle.text.specs.Text.{value_of, number_of}
use Rattle.candump.specs.Line.{second, point, cut}
use Rattle.candump.specs.Log.{latest}
use Rattle.start_time.specs.declared.StartError.{StartError}
use Rattle.start_time.specs.declared.StartError.TheVariants.{Late, Unreadable}

-- the most decimals
abbrev pub most_decimals : ℕ
most_decimals = 6

-- the microseconds of one in the last of so many decimals; 0 where there are none or more than six
unfoldable pub unit_of : ℕ → ℕ
unit_of n = if leb 1 n && leb n most_decimals then 10 ^ (most_decimals - n) else 0

-- the microseconds of decimals
unfoldable pub decimals_in : List ℕ → Option ℕ
decimals_in l = if eqb (unit_of (length l)) 0 then none else map (◌* unit_of (length l)) (value_of 10 0 l)

-- SECONDS, or SECONDS.DECIMALS where there is a point, in microseconds
unfoldable pub parted : List ℕ → Option (List ℕ × List ℕ) → Option ℕ
parted l none = map (◌* second) (number_of 10 l)
parted l (some s) = bind (number_of 10 s.0) (λ seconds. map (seconds * second +◌) (decimals_in s.1))

unfoldable pub start_in : List ℕ → Option ℕ
start_in l = parted l (cut point l)

-- a time within the limit
unfoldable pub within : ℕ → Result ℕ StartError
within t = if ltb latest t then Err Late else Ok t

unfoldable pub told : Option ℕ → Result ℕ StartError
told none = Err Unreadable
told (some t) = within t

-- THE START that a text says
unfoldable pub start_of : List ℕ → Result ℕ StartError
start_of l = told (start_in l)
