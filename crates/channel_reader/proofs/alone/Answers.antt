-- `channel_reader::alone` meets its contract. Assumes nothing.
use Prim.Native.Nat.{ℕ}
use mathlib.Core.Path.{ap, ◌∙◌}
use mathlib.Core.List.{[], ◌∷◌}
use Rattle.telegram.specs.Bits.{only_if}
use Rattle.telegram.specs.Telegram.{channel, read_channel}
use Rattle.telegram.proofs.Channel.{acknowledge_byte, alone_unknown}
use Rattle.telegram_types.specs.Face.{said, channel_said}
use Rattle.telegram_answers.proofs.Answers.{answers}
use Rattle.channel_reader.proofs.alone.Goals as goal

pub returns-then-high : goal.returns-then-high
unfolding said channel_said
returns-then-high c = c.plain.ensures ∙ answers channel (acknowledge_byte _ c.if-high.true)

pub returns-in-163 : goal.returns-in-163
unfolding said channel_said read_channel only_if
returns-in-163 c = c.plain-in-163.ensures ∙ answers channel (ap (λ (h : ℕ). read_channel (h ∷ [])) c.in-163.is)

pub returns-in-164 : goal.returns-in-164
unfolding said channel_said read_channel only_if
returns-in-164 c = c.plain-in-164.ensures ∙ answers channel (ap (λ (h : ℕ). read_channel (h ∷ [])) c.in-164.is)

pub returns-in-168 : goal.returns-in-168
unfolding said channel_said read_channel only_if
returns-in-168 c = c.plain-in-168.ensures ∙ answers channel (ap (λ (h : ℕ). read_channel (h ∷ [])) c.in-168.is)

pub returns-in_default : goal.returns-in_default
returns-in_default c =
    let none_of = c.in_default.in_default-own.rest in
    c.refused.ensures
    ∙ answers channel (alone_unknown _ c.requires.0 c.requires.1 c.if-high.false none_of.0.0.1 none_of.0.1 none_of.1)
