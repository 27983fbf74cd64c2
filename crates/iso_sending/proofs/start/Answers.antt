-- `iso_sending::start` meets its contract: no message, a single frame, a first frame. Assumes nothing.
use mathlib.Core.Path.{◌≡◌}
use native.Mathlib.Omega.{arith}
use lib.ListN.{length}
use Rattle.iso.specs.Limits.{most_payload}
use Rattle.iso_sending.proofs.Starting.{none_starts, held_in, oldest_lent, lent_long}
use borrow.Author.Rules.{rules}
use Rattle.iso_sending.proofs.start.Goals as goal

pub returns-then-r-eq0 : goal.returns-then-r-eq0
returns-then-r-eq0 c = none_starts c.args.r.now c.requires.0 c.if-r-eq0.true

pub oldest-m-requires : goal.oldest-m-requires
oldest-m-requires c = (held_in c.args.r.now c.requires.0 c.if-r-eq0.false, search rules)

pub single-requires : goal.single-requires
single-requires c =
    let r = c.args.r.now in
    let n = c.if-r-eq0.false in
    let m = c.oldest-m in
    let size = m.result.size in
    let long : length m.new.buffer ≡ most_payload = search rules in
    let lent = lent_long size m.new.buffer long m.ensures.2 in
    let here = oldest_lent r c.requires.0 n m.result.wide m.result.id size m.new.buffer m.ensures.0 in
    (c.requires.0, here, omega (arith, lent, c.if-size-le-IN_SINGLE.true))

pub segmented-requires : goal.segmented-requires
segmented-requires c =
    let r = c.args.r.now in
    let n = c.if-r-eq0.false in
    let m = c.oldest-m in
    let size = m.result.size in
    let long : length m.new.buffer ≡ most_payload = search rules in
    let lent = lent_long size m.new.buffer long m.ensures.2 in
    let here = oldest_lent r c.requires.0 n m.result.wide m.result.id size m.new.buffer m.ensures.0 in
    (c.requires.0, here, omega (arith, lent, c.if-size-le-IN_SINGLE.false), omega (arith, lent, m.ensures.2), c.requires.1)

pub returns-then-size-le-IN_SINGLE : goal.returns-then-size-le-IN_SINGLE
returns-then-size-le-IN_SINGLE c = c.single.ensures

pub returns : goal.returns
returns c = c.segmented.ensures
