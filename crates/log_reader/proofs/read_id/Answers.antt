-- `log_reader::read_id` meets its contract. Assumes nothing.
use mathlib.Core.Path.{◌≡◌, sym, ap, ◌∙◌}
use native.Mathlib.Omega.{arith}
use lib.Dec.{eqb}
use lib.ListN.{length}
use Rattle.text_reader.proofs.Digits.{NearNumber, number_there}
use Rattle.log_reader.specs.Reading.{identified}
use Rattle.log_reader.proofs.Identifying.{no_width, no_id, over_limit, is_id, limit_most}
use Rattle.log_reader.proofs.read_id.Goals as goal

pub returns-then-wide-text : goal.returns-then-wide-text
returns-then-wide-text c = no_width _ c.if-wide-text.true

pub returns-in_err-id : goal.returns-in_err-id
returns-in_err-id c = ap identified c.from_residual.ensures ∙ no_id _ c.if-wide-text.false c.in_err-id.ensures

-- the number that was read is `value_is`
pub returns-then-id-id_limit : goal.returns-then-id-id_limit
returns-then-id-id_limit c =
    let value_is : NearNumber 16 c.args.text.now c.in_ok-id.id = number_there 16 c.args.text.now c.in_ok-id.id c.in_ok-id.ensures in
    over_limit _ c.if-wide-text.false c.in_ok-id.id value_is (omega (arith, c.id_limit.ensures))

pub returns : goal.returns
returns c =
    let value_is : NearNumber 16 c.args.text.now c.in_ok-id.id = number_there 16 c.args.text.now c.in_ok-id.id c.in_ok-id.ensures in
    is_id _ c.if-wide-text.false c.in_ok-id.id value_is (omega (arith, c.id_limit.ensures))
