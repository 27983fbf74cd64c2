-- `link_data::data` meets its contract: a complete message waits, another SN, too many bytes, or they are taken. Assumes nothing.
use native.Mathlib.Omega.{arith}
use Rattle.link_data.proofs.Stored.{not_ready, passed_over, another, too_many, takes}
use Rattle.link_data.proofs.data.Goals as goal

pub returns-then-asking : goal.returns-then-asking
returns-then-asking c =
    let m = c.args.s.now in
    not_ready m c.requires.0 c.requires.1 c.args.asking c.args.last c.args.sn c.args.bytes.now c.if-s-eq1.true c.if-asking.true _ c.answer.ensures

pub returns-else-asking : goal.returns-else-asking
returns-else-asking c =
    let m = c.args.s.now in
    passed_over m c.requires.0 c.requires.1 c.args.asking c.args.last c.args.sn c.args.bytes.now c.if-s-eq1.true c.if-asking.false

pub returns-then-sn-s : goal.returns-then-sn-s
returns-then-sn-s c =
    let m = c.args.s.now in
    another m c.requires.0 c.requires.1 c.args.asking c.args.last c.args.sn c.args.bytes.now c.if-s-eq1.false c.if-sn-s.true _ c.answer-then-sn-s.ensures

pub returns-then-held-bytes-gt-MOST_BYTES : goal.returns-then-held-bytes-gt-MOST_BYTES
returns-then-held-bytes-gt-MOST_BYTES c =
    let m = c.args.s.now in
    too_many m c.requires.0 c.requires.1 c.args.asking c.args.last c.args.sn c.args.bytes.now c.if-s-eq1.false c.if-sn-s.false _ c.held.ensures.0 c.if-held-bytes-gt-MOST_BYTES.true

pub take-requires : goal.take-requires
take-requires c =
    let few = c.if-held-bytes-gt-MOST_BYTES.false in (c.requires.0, c.requires.1, omega (arith, c.held.ensures.0))

pub returns : goal.returns
returns c =
    let m = c.args.s.now in
    takes m c.requires.0 c.requires.1 c.args.asking c.args.last c.args.sn c.args.bytes.now c.if-s-eq1.false c.if-sn-s.false _ c.held.ensures.0 c.if-held-bytes-gt-MOST_BYTES.false _ c.take.ensures
