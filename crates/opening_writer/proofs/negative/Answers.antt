-- `opening_writer::negative` meets its contract. Assumes nothing.
use mathlib.Core.Path.{◌≡◌, sym, ap₂, ◌∙◌}
use mathlib.Core.Bool.{◌&&◌, and-false}
use borrow.Author.Tests.{eq-eqb, ne_eqb}
use Rattle.telegram.specs.Telegram.{is_destination, is_negative, fields_fit, opening_bytes}
use Rattle.telegram.proofs.Tests.{both, together, first_false}
use Rattle.telegram_bytes.proofs.Writes.{written, unwritten, are_bytes_law}
use Rattle.opening_writer.proofs.negative.Goals as goal
use Rattle.opening_writer.proofs.negative.Goals.{After-negative}

-- what the test of the first two bytes says
test : (c : goal.After-negative)
    → c.destination.result && c.negative.result ≡ is_destination c.args.destination && is_negative c.args.kind
test c = ap₂ ◌&&◌ c.destination.ensures c.negative.ensures

pub returns-then-bytes-ne5 : goal.returns-then-bytes-ne5
unfolding fields_fit
returns-then-bytes-ne5 c = c.refused.ensures _ ∙ unwritten _ _ _ (rw (ne_eqb _ _ c.if-bytes-ne5.true, and-false, and-false))

pub returns-then-destination-negative : goal.returns-then-destination-negative
unfolding fields_fit opening_bytes
returns-then-destination-negative c =
    let p = both {a = is_destination c.args.destination} (sym (test (goal.at.returns-then-destination-negative c).After-negative) ∙ c.if-destination-negative.true) in
    c.both.ensures
    ∙ written _ _ _ (together p.0 (together p.1 (together (eq-eqb _ _ c.if-bytes-ne5.false) (are_bytes_law _ c.shared_slice_known-1.given))))

pub returns : goal.returns
unfolding fields_fit
returns c =
    let a = c.args in
    c.refused-2.ensures _
    ∙ unwritten _ _ _ (first_false (is_destination a.destination) (is_negative a.kind) _ (sym (test (goal.at.returns c).After-negative) ∙ c.if-destination-negative.false))
