-- The memory that `replay::answer` begins with is a box just switched on.
use Rattle.std.proofs.Common.{refl, arith}
use Rattle.recording.proofs.Joined.{zeros_valid}
use Rattle.replay.proofs.answer.Goals as goal

pub play-requires : goal.play-requires
play-requires g c = (zeros_valid _ refl, omega arith)
