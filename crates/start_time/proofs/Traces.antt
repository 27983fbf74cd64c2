-- Starts worked out from the scope. Assumes nothing.
use Rattle.std.specs.Prelude.{Ok, Err}
use mathlib.Core.Path.{◌≡◌, refl}
use mathlib.Core.List.{[], ◌∷◌}
use mathlib.Core.Option.{bind}
use Rattle.text.specs.Text.{digit_in, below, value_of, number_of}
use Rattle.candump.specs.Line.{cut}
use Rattle.start_time.specs.Start.{unit_of, decimals_in, parted, start_in, within, told, start_of}
use Rattle.start_time.specs.declared.StartError.TheVariants.{Late, Unreadable}

pub record Starts : Type 0 where
  -- 1436509052
  pub seconds : start_of (0x31 ∷ 0x34 ∷ 0x33 ∷ 0x36 ∷ 0x35 ∷ 0x30 ∷ 0x39 ∷ 0x30 ∷ 0x35 ∷ 0x32 ∷ []) ≡ Ok 1_436_509_052_000_000
  -- 0.5 and 0.000001 and 007.123
  pub tenths : start_of (0x30 ∷ 0x2E ∷ 0x35 ∷ []) ≡ Ok 500_000
  pub millionths : start_of (0x30 ∷ 0x2E ∷ 0x30 ∷ 0x30 ∷ 0x30 ∷ 0x30 ∷ 0x30 ∷ 0x31 ∷ []) ≡ Ok 1
  pub zeros : start_of (0x30 ∷ 0x30 ∷ 0x37 ∷ 0x2E ∷ 0x31 ∷ 0x32 ∷ 0x33 ∷ []) ≡ Ok 7_123_000
  -- 4000000000, and a microsecond more
  pub latest_one : start_of (0x34 ∷ 0x30 ∷ 0x30 ∷ 0x30 ∷ 0x30 ∷ 0x30 ∷ 0x30 ∷ 0x30 ∷ 0x30 ∷ 0x30 ∷ []) ≡ Ok 4_000_000_000_000_000
  pub too_late : start_of (0x34 ∷ 0x30 ∷ 0x30 ∷ 0x30 ∷ 0x30 ∷ 0x30 ∷ 0x30 ∷ 0x30 ∷ 0x30 ∷ 0x30 ∷ 0x2E ∷ 0x30 ∷ 0x30 ∷ 0x30 ∷ 0x30 ∷ 0x30 ∷ 0x31 ∷ []) ≡ Err Late
  -- nothing, a point alone, .5, 1., 1.0000000, 1a, 0xA, -1
  pub nothing : start_of [] ≡ Err Unreadable
  pub point_alone : start_of (0x2E ∷ []) ≡ Err Unreadable
  pub no_seconds : start_of (0x2E ∷ 0x35 ∷ []) ≡ Err Unreadable
  pub no_decimals : start_of (0x31 ∷ 0x2E ∷ []) ≡ Err Unreadable
  pub seven : start_of (0x31 ∷ 0x2E ∷ 0x30 ∷ 0x30 ∷ 0x30 ∷ 0x30 ∷ 0x30 ∷ 0x30 ∷ 0x30 ∷ []) ≡ Err Unreadable
  pub a_letter : start_of (0x31 ∷ 0x61 ∷ []) ≡ Err Unreadable
  pub hexadecimal : start_of (0x30 ∷ 0x78 ∷ 0x41 ∷ []) ≡ Err Unreadable
  pub negative : start_of (0x2D ∷ 0x31 ∷ []) ≡ Err Unreadable
  -- two points
  pub two_points : start_of (0x31 ∷ 0x2E ∷ 0x32 ∷ 0x2E ∷ 0x33 ∷ []) ≡ Err Unreadable

pub starts : Starts
unfolding start_of start_in parted decimals_in unit_of within told cut value_of number_of digit_in below bind
starts =
    record {
      seconds = refl;
      tenths = refl;
      millionths = refl;
      zeros = refl;
      latest_one = refl;
      too_late = refl;
      nothing = refl;
      point_alone = refl;
      no_seconds = refl;
      no_decimals = refl;
      seven = refl;
      a_letter = refl;
      hexadecimal = refl;
      negative = refl;
      two_points = refl;
    }
