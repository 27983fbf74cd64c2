-- `opening_reader::negative` meets its contract. Assumes nothing.
use mathlib.Core.Path.{◌≡◌, refl, sym, ◌∙◌}
use native.Mathlib.Omega.{arith}
use lib.ListN.{length, get_or, drop, length-drop}
use Rattle.telegram.specs.Telegram.{negative, opening}
use Rattle.telegram.proofs.Tests.{let_through, stopped}
use Rattle.telegram.proofs.Opening.{kind_negative}
use Rattle.telegram_types.specs.Face.{told, said, opening_said, carried_by}
use Rattle.telegram_answers.proofs.Answers.{carrying, answers}
use Rattle.opening_reader.proofs.negative.Goals as goal

pub returns-then-negative : goal.returns-then-negative
unfolding told said opening_said carried_by
returns-then-negative c =
    let b = c.args.bytes.now in
    let id = c.args.identifier in
    let five : 5 ≡ length (drop 2 b) = simp length-drop (omega arith) in
    let test = c.negative.ensures in
    carrying (λ l. opening id (negative (get_or b 0 0) (get_or b 1 0) l)) (λ l. refl) (drop 2 b) _ 5 c.carried-payload.ensures five
    ∙ answers (opening id) (kind_negative b c.requires.1.0 c.requires.1.1 ∙ let_through _ _ (sym test ∙ c.if-negative.true))

pub returns : goal.returns
returns c =
    let test = c.negative.ensures in
    c.refused.ensures
    ∙ answers (opening c.args.identifier) (kind_negative _ c.requires.1.0 c.requires.1.1 ∙ stopped _ _ (sym test ∙ c.if-negative.false))
