-- `iso_sending::single` meets its contract: the message goes, its frame flies. Assumes nothing.
use mathlib.Core.Path.{◌≡◌}
use native.Mathlib.Omega.{arith}
use lib.ListN.{length}
use Rattle.framing.specs.Data.{frame_room}
use Rattle.iso_giving.proofs.Flying.{lent_data, long_data}
use Rattle.iso_sending.proofs.Starting.{held_long, held_few, some_held, single_room, single_starts}
use borrow.Author.Rules.{rules}
use Rattle.iso_sending.proofs.single.Goals as goal

pub slice_bounds-launch-end-2 : goal.slice_bounds-launch-end-2
slice_bounds-launch-end-2 c =
    let framed = c.single-n in
    omega (arith, single_room c.args.r.now c.requires.0 c.args.wide c.args.id c.args.payload.now c.requires.1 c.requires.2 framed.result framed.new.d framed.ensures)

pub drop_oldest-requires : goal.drop_oldest-requires
drop_oldest-requires c =
    (held_long c.args.r.now c.requires.0, some_held c.args.r.now c.requires.0 c.args.wide c.args.id c.args.payload.now c.requires.1, held_few c.args.r.now c.requires.0)

pub launch-requires : goal.launch-requires
launch-requires c =
    let framed = c.single-n in
    let long : length framed.new.d ≡ frame_room = search rules in
    let room = single_room c.args.r.now c.requires.0 c.args.wide c.args.id c.args.payload.now c.requires.1 c.requires.2 framed.result framed.new.d framed.ensures in
    let lent = long_data framed.result framed.new.d long room in
    (omega arith, omega (arith, lent, room))

pub returns : goal.returns
returns c =
    let framed = c.single-n in
    let gone = c.drop_oldest in
    let launched = c.launch in
    single_starts c.args.r.now c.requires.0 c.args.wide c.args.id c.args.payload.now c.requires.1 c.requires.2 gone.new.s gone.ensures framed.result framed.new.d _ launched.new.f (lent_data framed.result framed.new.d) framed.ensures launched.ensures
