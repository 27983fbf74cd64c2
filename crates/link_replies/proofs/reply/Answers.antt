use mathlib.Core.Path.{sym, ap, ◌∙◌}
use Rattle.link_layout.specs.Connection.{connection_part}
use Rattle.link_layout.proofs.Places.{kept}
use Rattle.link_replies.specs.declared.Means.{Means}
use Rattle.link_replies.specs.Meaning.{after_reply}
use Rattle.link_layout.proofs.Asked.{gone}
use Rattle.link_replies.proofs.Turns.{opening_passes, opening_turns}
use Rattle.link_replies.proofs.reply.Goals as goal

pub returns-then-id-wide : goal.returns-then-id-wide
returns-then-id-wide c =
    opening_passes c.args.part.now c.requires.0 c.args.id c.args.bytes.now c.requires.1 _ c.wide.ensures.0 c.if-id-wide.true

pub returns-in-Nothing : goal.returns-in-Nothing
unfolding after_reply
returns-in-Nothing c =
    opening_turns c.args.part.now c.requires.0 c.args.id c.args.bytes.now c.requires.1 _ c.wide.ensures.0 c.if-id-wide.false _ c.word_at-rx.ensures.0 c.reply_in.result c.reply_in.ensures c.args.part.now
    (λ a n t e. sym (kept c.args.part.now c.requires.0) ∙ ap connection_part.put (e ∙ sym (ap (λ (x : Means). after_reply x a n t) c.in-Nothing.is)))

pub returns-in-Positive : goal.returns-in-Positive
unfolding after_reply
returns-in-Positive c =
    opening_turns c.args.part.now c.requires.0 c.args.id c.args.bytes.now c.requires.1 _ c.wide.ensures.0 c.if-id-wide.false _ c.word_at-rx.ensures.0 c.reply_in.result c.reply_in.ensures _
    (λ a n t e. c.connect.ensures a n t e ∙ ap connection_part.put (sym (ap (λ (x : Means). after_reply x a n t) c.in-Positive.is)))

pub returns-in-Negative : goal.returns-in-Negative
unfolding after_reply
returns-in-Negative c =
    opening_turns c.args.part.now c.requires.0 c.args.id c.args.bytes.now c.requires.1 _ c.wide.ensures.0 c.if-id-wide.false _ c.word_at-rx.ensures.0 c.reply_in.result c.reply_in.ensures _
    (λ a n t e. gone c.args.part.now _ c.requires.0 c.zero.ensures ∙ ap connection_part.put (sym (ap (λ (x : Means). after_reply x a n t) c.in-Negative.is)))
