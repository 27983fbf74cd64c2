-- `log_reader::read_name` meets its contract. Assumes nothing.
use mathlib.Core.Path.{ap}
use Rattle.text_reader.specs.Reading.{valued}
use Rattle.log_reader.proofs.Naming.{not_four, not_can, a_line, no_line}
use Rattle.log_reader.proofs.read_name.Goals as goal

pub returns-then-name-ne4 : goal.returns-then-name-ne4
unfolding valued
returns-then-name-ne4 c = ap valued (not_four _ c.if-name-ne4.true)

pub returns-then-not-can : goal.returns-then-not-can
unfolding valued
returns-then-not-can c = ap valued (not_can _ c.if-name-ne4.false c.if-not-can.true)

pub returns-then-last : goal.returns-then-last
unfolding valued
returns-then-last c = ap valued (a_line c.args.name.now c.if-name-ne4.false c.if-not-can.false c.if-last.true)

pub returns : goal.returns
unfolding valued
returns c = ap valued (no_line c.args.name.now c.if-name-ne4.false c.if-not-can.false c.if-last.false)
