-- `iso_giving::segment_at` meets its contract: nothing, or a frame that flies. Assumes nothing.
use mathlib.Core.Path.{◌≡◌}
use lib.ListN.{length}
use Rattle.framing.specs.Data.{frame_room}
use Rattle.iso_giving.specs.Giving.{segments}
use Rattle.iso_giving.proofs.Rules.{fair_segments}
use Rattle.iso_giving.proofs.Flying.{place_long, placed, gave_nothing, gave_frame, lent_data}
use borrow.Author.Rules.{rules}
use Rattle.iso_giving.proofs.segment_at.Goals as goal

pub segment-n-requires : goal.segment-n-requires
segment-n-requires c =
    (place_long c.args.r.now c.requires.0 c.args.k c.requires.1, search rules, placed c.args.r.now c.requires.0 c.args.k c.requires.1)

pub returns-then-n-eq0 : goal.returns-then-n-eq0
returns-then-n-eq0 c =
    let did = c.segment-n in
    gave_nothing c.args.r.now c.requires.0 c.args.k c.requires.1 segments (fair_segments _ c.args.k) did.result did.new.d did.new.t (did.ensures.0 c.args.k) c.if-n-eq0.true

pub returns : goal.returns
returns c =
    let did = c.segment-n in
    let long : length did.new.d ≡ frame_room = search rules in
    gave_frame c.args.r.now c.requires.0 c.args.k c.requires.1 segments (fair_segments _ c.args.k) did.result did.new.d did.new.t (did.ensures.0 c.args.k) c.if-n-eq0.false long did.ensures.1 _ c.fly.new.r (lent_data did.result did.new.d) c.fly.ensures
