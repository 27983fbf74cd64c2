-- `recording_sizes::on_iso` meets its contract: the tests are those of the definition. Assumes nothing.
use mathlib.Core.Path.{refl}
use Rattle.codec.specs.Plain.{within}
use Rattle.recording_sizes.specs.Sizes.{on_iso}
use Rattle.recording_sizes.proofs.on_iso.Goals as goal

pub returns : goal.returns
unfolding on_iso within
returns c = refl
