-- `own_telegrams::connection` meets its contract. Assumes nothing.
use mathlib.Core.Path.{refl}
use Rattle.telegram.specs.Telegram.{unused_time, own_connection}
use Rattle.telegram_types.specs.Face.{channel_said}
use Rattle.own_telegrams.proofs.connection.Goals as goal

pub returns : goal.returns
unfolding channel_said unused_time own_connection
returns c = λ bytes. refl
