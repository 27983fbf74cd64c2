-- `shift_report::count_at` meets its contract. Assumes nothing.
use native.Mathlib.Omega.{arith}
use Rattle.codec.proofs.Lists.{bytes_of_law}
use Rattle.edition.specs.Edition.{rates_of}
use Rattle.playing.proofs.Turning.{event_lends, read_bad, read_good, good_there}
use Rattle.shift_report.proofs.Going.{bad_counted, good_counted}
use Rattle.shift_report.proofs.count_at.Goals as goal

pub returns-in_default : goal.returns-in_default
returns-in_default c =
    let s = c.args.recording.now in
    bad_counted (rates_of s) s c.args.at c.args.mem.now c.args.numbers.now (read_bad s c.args.at c.read_event.result c.read_event.ensures c.in_default.is)

pub count-requires : goal.count-requires
count-requires c =
    (c.requires.0, good_there c.args.recording.now c.args.at c.read_event.result c.read_event.ensures c.in-Some.is, c.requires.1)

pub play_by_edition-requires : goal.play_by_edition-requires
play_by_edition-requires c =
    (c.requires.0, good_there c.args.recording.now c.args.at c.read_event.result c.read_event.ensures c.in-Some.is, omega (arith, c.requires.2))

pub returns : goal.returns
returns c =
    let s = c.args.recording.now in
    good_counted (rates_of s) s c.args.at c.args.mem.now c.args.numbers.now
    (read_good s c.args.at c.read_event.result c.read_event.ensures c.in-Some.is)
    (event_lends s (bytes_of_law s (λ i. (c.shared_slice_known-1.given i).fits)) c.in-Some.e)
    c.play_by_edition.ensures.memory
    (c.count.ensures (rates_of s))
