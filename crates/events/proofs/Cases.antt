-- The worked examples hold: both sides compute. Assumes nothing.
use mathlib.Core.Option.{bind}
use mathlib.Core.Path.{refl}
use Rattle.codec.specs.Plain.{within}
use Rattle.recording_sizes.specs.Sizes.{on_iso, record_on}
use Rattle.number.specs.Number.{front, joined, highest, shortest, taken, number_in}
use Rattle.events.specs.Events.{◌>>=◌, done, bad, number, bytes, record_in, start_in, at_most64, arguments, arguments_of, read_event}
use Rattle.events.specs.Values.{value, count, raw, pieces, in_order, channel_then, flow_on, values, values_after, read_values}
use Rattle.events.specs.Cases.{CasesHold}

pub cases_hold : CasesHold
unfolding within on_iso record_on front joined highest shortest taken number_in bind ◌>>=◌ done bad number bytes record_in start_in at_most64 arguments arguments_of read_event value count raw pieces in_order channel_then flow_on values values_after read_values
cases_hold = record { read_so = refl; found_so = refl; said_so = refl }
