-- `playing::play_event` meets its contract. Assumes nothing.
use native.Mathlib.Omega.{arith}
use Rattle.codec.proofs.Lists.{bytes_of_law}
use Rattle.edition.specs.Edition.{rates_of}
use Rattle.number.proofs.Laws.{written_short}
use Rattle.playing.proofs.Turning.{event_lends, read_bad, read_good, good_there, turned_bad, turned_good}
use Rattle.playing.proofs.play_event.Goals as goal

pub put_number-after-requires : goal.put_number-after-requires
put_number-after-requires c = omega (arith, (written_short 255).1, c.requires.1)

pub returns-in_default : goal.returns-in_default
returns-in_default c = turned_bad (rates_of c.args.recording.now) c.args.recording.now c.args.at c.args.mem.now (read_bad c.args.recording.now c.args.at c.read_event.result c.read_event.ensures c.in_default.is) c.put_number-after.ensures

pub play_by_edition-after-requires : goal.play_by_edition-after-requires
play_by_edition-after-requires c = (c.requires.0, good_there c.args.recording.now c.args.at c.read_event.result c.read_event.ensures c.in-Some.is, c.requires.1)

pub returns : goal.returns
returns c =
    let s = c.args.recording.now in
    turned_good (rates_of s) s c.args.at c.args.mem.now (read_good s c.args.at c.read_event.result c.read_event.ensures c.in-Some.is) (event_lends s (bytes_of_law s (λ i. (c.type_inv.recording i).fits)) c.in-Some.e) c.play_by_edition-after.ensures
