-- `opening_reader::opening` meets its contract. Assumes nothing.
use mathlib.Core.Path.{◌≡◌, sym, ap₂, ◌∙◌}
use mathlib.Core.Bool.{◌&&◌}
use lib.ListN.{get_or}
use Rattle.telegram.specs.Telegram.{opening, is_opening_id, is_destination, read_opening, opening_of}
use Rattle.telegram.proofs.Opening.{headed, unheaded, other_length}
use Rattle.telegram_answers.proofs.Answers.{answers}
use Rattle.opening_reader.proofs.opening.Goals as goal
use Rattle.opening_reader.proofs.opening.Goals.{After-destination, Else-not-opening_id-destination}

-- what the second test says of the identifier and the first byte
test : (c : goal.After-destination)
    → c.opening_id.result && c.destination.result
    ≡ is_opening_id c.args.identifier && is_destination (get_or c.args.bytes.now 0 0)
test c = ap₂ ◌&&◌ c.opening_id.ensures c.destination.ensures

-- past both tests the second byte decides
good : (c : goal.Else-not-opening_id-destination) → read_opening c.args.identifier c.args.bytes.now ≡ opening_of c.args.bytes.now
good c = headed _ _ (sym ((let told : c.opening_id.result && c.destination.result
    ≡ is_opening_id c.args.identifier && is_destination (get_or c.args.bytes.now 0 0) = ap₂ ◌&&◌ c.opening_id.ensures c.destination.ensures in told)) ∙ c.if-not-opening_id-destination.false) c.if-bytes-ne7.false

pub returns-then-bytes-ne7 : goal.returns-then-bytes-ne7
returns-then-bytes-ne7 c = c.refused.ensures ∙ answers (opening _) (other_length _ _ c.if-bytes-ne7.true)

pub returns-then-not-opening_id-destination : goal.returns-then-not-opening_id-destination
returns-then-not-opening_id-destination c =
    c.refused-then-not-opening_id-destination.ensures
    ∙ answers (opening _) (unheaded _ _ (sym (test (goal.at.returns-then-not-opening_id-destination c).After-destination) ∙ c.if-not-opening_id-destination.true) c.if-bytes-ne7.false)

pub returns-then-kind : goal.returns-then-kind
returns-then-kind c = c.set_up.ensures ∙ answers (opening _) (good (goal.at.returns-then-kind c).Else-not-opening_id-destination)

pub returns-then-kind-2 : goal.returns-then-kind-2
returns-then-kind-2 c = c.positive.ensures ∙ answers (opening _) (good (goal.at.returns-then-kind-2 c).Else-not-opening_id-destination)

pub returns : goal.returns
returns c = c.negative.ensures ∙ answers (opening _) (good (goal.at.returns c).Else-not-opening_id-destination)
