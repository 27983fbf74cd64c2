-- `fault::arguments` meets its contract. Each arm is the entry of the table for its number. Assumes nothing.
use mathlib.Core.Path.{refl, ap, ◌∙◌}
use Rattle.recording_sizes.proofs.Laws.{record_fits}
use Rattle.fault.specs.Fault.{number_after, two_after, bytes_after, pieces_after, channel_at, flow_after, no_more, looks}
use Rattle.fault.proofs.Parts.{entry, filter_entry_law, periodic_entry, write_entry, no_arguments}
use Rattle.fault.proofs.arguments.Goals as goal

pub returns-in-1 : goal.returns-in-1
unfolding looks two_after
returns-in-1 c = let s = c.args.recording.now in c.number-in-1.ensures ∙ ap (number_after s) (c.number.ensures ∙ ap (number_after s) (c.number-two.ensures ∙ ap (number_after s) c.number-one.ensures)) ∙ entry s _ 1 _ refl c.in-1.is

pub returns-in-2 : goal.returns-in-2
unfolding looks
returns-in-2 c = c.number-one.ensures ∙ entry _ _ 2 number_after refl c.in-2.is

pub returns-in-3 : goal.returns-in-3
unfolding looks no_more
returns-in-3 c = entry _ _ 3 no_more refl c.in-3.is

pub returns-in-4 : goal.returns-in-4
unfolding looks
returns-in-4 c = c.number-one.ensures ∙ entry _ _ 4 number_after refl c.in-4.is

pub returns-in-5 : goal.returns-in-5
unfolding looks two_after
returns-in-5 c = let s = c.args.recording.now in c.pieces.ensures ∙ ap (pieces_after 1 s) (c.number-in-5.ensures ∙ ap (number_after s) (c.number-two.ensures ∙ ap (number_after s) c.number-one.ensures)) ∙ entry s _ 5 _ refl c.in-5.is

pub returns-in-6 : goal.returns-in-6
unfolding two_after channel_at
returns-in-6 c =
    let s = c.args.recording.now in
    c.flow.ensures
    ∙ ap (flow_after _ s) (c.bytes-in-6.ensures ∙ ap (bytes_after _ s) (c.bytes.ensures ∙ ap (bytes_after _ s) (c.number-two.ensures ∙ ap (number_after s) c.number-one.ensures)))
    ∙ filter_entry_law s _ c.number_at-channel.ensures c.record_on-size.ensures c.in-6.is

pub returns-in-7 : goal.returns-in-7
unfolding looks two_after
returns-in-7 c = let s = c.args.recording.now in c.number-two.ensures ∙ ap (number_after s) c.number-one.ensures ∙ entry s _ 7 _ refl c.in-7.is

pub returns-in-8 : goal.returns-in-8
unfolding channel_at
returns-in-8 c =
    let s = c.args.recording.now in
    c.number-in-8.ensures ∙ ap (number_after s) (c.bytes-in-8.ensures ∙ ap (bytes_after _ s) c.number-one.ensures) ∙ periodic_entry s _ c.number_at-channel.ensures c.record_on-size.ensures c.in-8.is

pub returns-in-9 : goal.returns-in-9
unfolding looks two_after
returns-in-9 c = let s = c.args.recording.now in c.number-two.ensures ∙ ap (number_after s) c.number-one.ensures ∙ entry s _ 9 _ refl c.in-9.is

pub returns-in-10 : goal.returns-in-10
unfolding channel_at
returns-in-10 c =
    let s = c.args.recording.now in
    c.pieces-in-10.ensures ∙ ap (pieces_after _ s) c.number-one.ensures ∙ write_entry s _ c.number_at-channel.ensures c.record_on-size.ensures c.in-10.is

pub returns-in-11 : goal.returns-in-11
unfolding looks
returns-in-11 c = let s = c.args.recording.now in c.pieces-in-11.ensures ∙ ap (pieces_after 0 s) c.number-one.ensures ∙ entry s _ 11 _ refl c.in-11.is

pub returns-in-12 : goal.returns-in-12
unfolding looks
returns-in-12 c = c.number-one.ensures ∙ entry _ _ 12 number_after refl c.in-12.is

pub returns-in-13 : goal.returns-in-13
unfolding looks
returns-in-13 c = c.number-one.ensures ∙ entry _ _ 13 number_after refl c.in-13.is

pub returns-in-14 : goal.returns-in-14
unfolding looks two_after
returns-in-14 c = let s = c.args.recording.now in c.number-two.ensures ∙ ap (number_after s) c.number-one.ensures ∙ entry s _ 14 _ refl c.in-14.is

pub returns-in-15 : goal.returns-in-15
unfolding looks two_after
returns-in-15 c = let s = c.args.recording.now in c.number-two.ensures ∙ ap (number_after s) c.number-one.ensures ∙ entry s _ 15 _ refl c.in-15.is

pub returns-in-16 : goal.returns-in-16
unfolding looks two_after
returns-in-16 c = let s = c.args.recording.now in c.number-in-16.ensures ∙ ap (number_after s) (c.number-two.ensures ∙ ap (number_after s) c.number-one.ensures) ∙ entry s _ 16 _ refl c.in-16.is

pub returns-in_default : goal.returns-in_default
returns-in_default c = no_arguments _ _ _ c.in_default.in_default-own.rest

pub pieces-requires-in-10 : goal.pieces-requires-in-10
pieces-requires-in-10 c = record_fits _ c.record_on-size.ensures
