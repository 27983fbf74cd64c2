-- `cubes::lowest` meets its contract. Assumes nothing.
use native.Mathlib.Omega.{arith}
use Rattle.cubes.proofs.OneBit.{tz_small, lowest_bit}
use Rattle.cubes.proofs.lowest.Goals as goal

pub overflow_cast-result : goal.overflow_cast-result
overflow_cast-result c = let s = tz_small 64 c.args.x c.requires c.ranges.x.fits in omega arith

pub overflow_shl-result : goal.overflow_shl-result
overflow_shl-result c = tz_small 64 c.args.x c.requires c.ranges.x.fits

pub returns : goal.returns
returns c = lowest_bit c.args.x c.requires c.ranges.x.fits
