-- `channel_reader::data` meets its contract. Assumes nothing.
use Prim.Native.Nat.{◌-◌, ◌%◌, ◌≤◌, ◌<◌}
use mathlib.Core.Path.{◌≡◌, refl, ◌∙◌}
use mathlib.Core.Bool.{not}
use native.Mathlib.Omega.{arith}
use lib.ListN.{length, get_or, drop, length-drop}
use borrow.Author.Tests.{le-leb, lt-leb}
use Rattle.telegram.specs.Bits.{bit}
use Rattle.telegram.specs.Telegram.{data_telegram, channel}
use Rattle.telegram.proofs.Tests.{let_through, stopped}
use Rattle.telegram.proofs.Channel.{first_data}
use Rattle.telegram_types.specs.Face.{told, said, channel_said, carried_by}
use Rattle.telegram_answers.proofs.Answers.{carrying, answers}
use Rattle.channel_reader.proofs.data.Goals as goal

pub returns-then-bytes-gt8 : goal.returns-then-bytes-gt8
returns-then-bytes-gt8 c =
    let b = c.args.bytes.now in
    let long : 7 < length (drop 1 b) = simp length-drop (omega arith) in
    c.refused.ensures ∙ answers channel (first_data b c.requires.0 c.requires.1 ∙ stopped _ _ (lt-leb _ _ long))

pub returns : goal.returns
unfolding told said channel_said carried_by
returns c =
    let b = c.args.bytes.now in
    let h = get_or b 0 0 in
    let rest : length b - 1 ≡ length (drop 1 b) = simp length-drop refl in
    let short : length (drop 1 b) ≤ 7 = simp length-drop (omega arith) in
    rw (c.is_set.ensures, c.is_set-2.ensures)
    (carrying (λ l. channel (data_telegram (not (bit 0x20 h)) (bit 0x10 h) (h % 16) l)) (λ l. refl) (drop 1 b) _ _ c.carried-payload.ensures rest
    ∙ answers channel (first_data b c.requires.0 c.requires.1 ∙ let_through _ _ (le-leb _ _ short)))
