-- A periodic put at a place: what may be put there, and its timer. Assumes nothing.
use Rattle.std.specs.Prelude.{ℕ, ◌+◌, ◌*◌, ◌≤◌, ◌≡◌, not, List, T, length, set}
use borrow.Rule.Slice.PartMut.{put_mid}
use Rattle.codec.specs.Word.{word}
use Rattle.machine.specs.Message.{message_code}
use Rattle.machine.specs.Channel.{listens}
use Rattle.machine.specs.Limits.{record_size}
use Rattle.layout.specs.Sizes.{phases_in, pending_in, number_size}
use Rattle.stores.specs.Periodics.{PeriodicPart}

-- such a part, and a message that passed its checks for that connection, which is no listener's
pub record Sendable (m message : List ℕ) : Type 0 where
  pub part : PeriodicPart m
  pub long : record_size ≤ length message
  pub good : message_code part.flags message ≡ 0
  pub speaks : T (not (listens part.flags))

-- a part with another timer at place i, in its first three columns: its interval, no time since the last due time, its pending mark
unfoldable pub timed : ℕ → ℕ → ℕ → List ℕ → List ℕ
timed i interval pending m = set (put_mid (phases_in + i * number_size) 4 (put_mid (i * number_size) 4 m (word interval)) (word 0)) (pending_in + i) pending
