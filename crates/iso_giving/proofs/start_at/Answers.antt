-- `iso_giving::start_at` meets its contract: nothing, or a frame that flies. Assumes nothing.
use mathlib.Core.Path.{◌≡◌}
use lib.ListN.{length}
use Rattle.framing.specs.Data.{frame_room}
use Rattle.iso_giving.specs.Giving.{starts}
use Rattle.iso_giving.proofs.Rules.{fair_starts}
use Rattle.iso_giving.proofs.Flying.{gave_nothing, gave_frame, lent_data}
use borrow.Author.Rules.{rules}
use Rattle.iso_giving.proofs.start_at.Goals as goal

pub returns-then-n-eq0 : goal.returns-then-n-eq0
returns-then-n-eq0 c m s =
    let did = c.start-n in
    gave_nothing c.args.r.now c.requires.0 c.args.k c.requires.1 (starts m) (fair_starts s c.args.k) did.result did.new.d did.new.t (did.ensures.0 m c.args.k s.width s.identifier s.rest) c.if-n-eq0.true

pub returns : goal.returns
returns c m s =
    let did = c.start-n in
    let long : length did.new.d ≡ frame_room = search rules in
    gave_frame c.args.r.now c.requires.0 c.args.k c.requires.1 (starts m) (fair_starts s c.args.k) did.result did.new.d did.new.t (did.ensures.0 m c.args.k s.width s.identifier s.rest) c.if-n-eq0.false long did.ensures.1 _ c.fly.new.r (lent_data did.result did.new.d) c.fly.ensures
