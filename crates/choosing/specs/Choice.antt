-- What goes in flight next: its bytes, the three stores that it is chosen from, and the channel that is without it. Assumes nothing.
use Rattle.std.specs.Prelude.{ℕ, ◌≤◌, ◌<◌, ◌≡◌, Bool, false, List, [], ltb, length, get_or, drop, if◌then◌else◌}
use Rattle.std.proofs.Math.Option.{Option, none, some}
use Rattle.machine.specs.Message.{Rec, shown}
use Rattle.machine.specs.Filter.{Slots, any_slot}
use Rattle.machine.specs.Channel.{Periodic, Chan, closed, opened, with_sending, Next, next}
use Rattle.machine.specs.Limits.{most_places, record_size}
use Rattle.layout.specs.Memory.{periodics}
use Rattle.stores.specs.Periodics.{PeriodicPart, changed}
use Rattle.stores.specs.Written.{WrittenPart}
use Rattle.pending.specs.Pending.{first_pending, calm_slot}

-- its 36 bytes; none where there is nothing to send
unfoldable pub next_shown : Option Next → List ℕ
next_shown none = []
next_shown (some x) = shown x.chosen

-- those of the choice: a pending periodic, else the telegram t where there is one, else the oldest written record
unfoldable pub choice_shown : Slots Periodic → Bool → List ℕ → List Rec → List ℕ
choice_shown ps there t ws =
    if any_slot (λ p. p.pending) ps then next_shown (next ps ws)
    else if there then t
    else next_shown (next ps ws)

-- the periodics of a channel, a telegram's record and the written store: i is the first place with a pending periodic, and where there is none there is a
-- telegram or a record is written
pub record Choosing (p t w : List ℕ) (i : ℕ) (there : Bool) : Type 0 where
  pub part : PeriodicPart p
  pub one : length t ≡ record_size
  pub store : WrittenPart part.flags w
  pub first : i ≡ first_pending ((periodics part.flags).get p)
  pub something : most_places ≤ i → there ≡ false → 0 < get_or w 0 0

-- the channel when it is gone: the periodic of place i is no longer pending; where i is no place and it wasn't a telegram, the oldest written record is
-- no longer held
unfoldable pub freed : ℕ → Bool → Chan → Chan
freed i there closed = closed
freed i there (opened o) =
    if ltb i most_places then with_sending o (changed calm_slot i o.sending.periodics) o.sending.written o.sending.flight
    else if there then opened o
    else with_sending o o.sending.periodics (drop 1 o.sending.written) o.sending.flight
