use Rattle.codec.proofs.Lists.{part_long}
use native.Mathlib.Omega.{arith}
use Rattle.link_asking.specs.Asking.{asked_of, asks}
use Rattle.link_layout.proofs.Talking.{asked_facts}
use Rattle.link_asking.proofs.Laws.{application_byte, opened}
use Rattle.link_asking.proofs.open.Goals as goal

pub put_asked-requires : goal.put_asked-requires
unfolding asked_of
put_asked-requires c =
    let f = asked_facts (asks c.args.a) c.requires.2 in
    let b = application_byte (asks c.args.a) c.requires.2 in
    (part_long 1 13 c.args.part.now (omega (arith, c.requires.0.long)), omega (arith, f.destination_high), b, omega (arith, f.block_size_high), omega (arith, f.t1_high), omega (arith, f.t3_high))

pub returns : goal.returns
returns c = opened c.args.part.now c.requires.0 c.requires.1 (asks c.args.a) _ c.put_asked.ensures
