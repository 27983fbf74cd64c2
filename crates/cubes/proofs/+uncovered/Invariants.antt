-- Each call of itself has a larger mask. Assumes nothing.
use Prim.Native.Nat.{◌-◌}
use Rattle.cubes.proofs.+uncovered.Given as goal

abbrev pub decreases-uncovered : goal.decreases-uncovered
decreases-uncovered l = 18446744073709551616 - l.cm
