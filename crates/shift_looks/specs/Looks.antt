-- What of a raw channel is looked at before an event is counted. Assumes nothing.
use Rattle.std.specs.Prelude.{ℕ, ◌+◌, ◌≤◌, ◌<◌, ◌≡◌, Bool, not, ◌&&◌}
use Rattle.machine.specs.Limits.{lines}
use Rattle.machine.specs.Filter.{taken}
use Rattle.machine.specs.Channel.{Chan, listens}
use Rattle.shift.specs.Numbers.{open_and}

-- a sent would echo: a record is in flight, and loopback is on; a listener's sent is refused
unfoldable pub would_echo : Chan → Bool
would_echo c = open_and (λ o. not (listens o.config.flags) && (taken o.sending.flight && o.config.loopback)) c

-- the line of the raw channel of a number; four or more where it is the number of none
pub record LineOf (channel line : ℕ) : Type 0 where
  pub here : line < lines → channel ≡ line + 1
  pub nowhere : lines ≤ line → (i : ℕ) → i < lines → channel ≡ i + 1 → ⊥
