-- The worked examples hold: both sides compute. Assumes nothing.
use mathlib.Core.Option.{bind}
use mathlib.Core.Path.{refl}
use Rattle.codec.specs.Plain.{within}
use Rattle.recording_sizes.specs.Sizes.{on_iso, record_on}
use Rattle.number.specs.Number.{front, joined, highest, shortest, taken, number_in}
use Rattle.number.specs.Place.{answer, number_at}
use Rattle.events.specs.Events.{◌>>=◌, done, bad, number, bytes, record_in, start_in, at_most64, arguments, arguments_of, read_event}
use Rattle.edition.specs.Edition.{marked, start_of}
use Rattle.fault.specs.Fault.{told, channel_at, and_then, why_bad, number_then, number_after, two_after, bytes_from, bytes_after, record_after, pieces_from, pieces_after, no_more, flow_after, looks, arguments_after, edition_fault, kind_then, event_fault, met, fault_from, fault_in}
use Rattle.fault.specs.Cases.{CasesHold}

pub cases_hold : CasesHold
unfolding marked start_of front joined highest shortest taken number_in bind answer number_at ◌>>=◌ done bad number bytes record_in start_in at_most64 within on_iso record_on arguments arguments_of read_event told channel_at and_then why_bad number_then number_after two_after bytes_from bytes_after record_after pieces_from pieces_after no_more flow_after looks arguments_after edition_fault kind_then event_fault met fault_from fault_in
cases_hold = refl
