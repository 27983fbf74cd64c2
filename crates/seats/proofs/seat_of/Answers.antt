-- `seats::seat_of` meets its contract. Assumes nothing.
use native.Mathlib.Omega.{arith}
use Rattle.codec.proofs.Tests.{below, above}
use Rattle.whole.specs.Device.{channels}
use Rattle.seats.proofs.Laws.{none_such, none_open, raw_open, iso_open, in_memory}
use Rattle.seats.proofs.seat_of.Goals as goal

pub returns-then-number-lt1 : goal.returns-then-number-lt1
returns-then-number-lt1 c = none_such _ c.requires _ (below 1 channels _ c.if-number-lt1.true)

pub returns-then-number-gt-CHANNELS : goal.returns-then-number-gt-CHANNELS
returns-then-number-gt-CHANNELS c = none_such _ c.requires _ (above 1 channels _ c.if-number-gt-CHANNELS.true)

pub begins-base-requires : goal.begins-base-requires
begins-base-requires c = (omega arith, omega arith)

pub bounds-mem-base : goal.bounds-mem-base
bounds-mem-base c = in_memory _ c.requires _ (omega arith) (omega arith) _ c.begins-base.ensures

pub returns-then-mem-base-eq0 : goal.returns-then-mem-base-eq0
returns-then-mem-base-eq0 c = none_open _ c.requires _ (omega arith) (omega arith) _ c.begins-base.ensures c.if-mem-base-eq0.true

pub returns-then-base-lt-ISO_REGIONS : goal.returns-then-base-lt-ISO_REGIONS
returns-then-base-lt-ISO_REGIONS c = raw_open _ c.requires _ (omega arith) (omega arith) _ c.begins-base.ensures c.if-mem-base-eq0.false c.if-base-lt-ISO_REGIONS.true

pub returns : goal.returns
returns c = iso_open _ c.requires _ (omega arith) (omega arith) _ c.begins-base.ensures c.if-mem-base-eq0.false c.if-base-lt-ISO_REGIONS.false
