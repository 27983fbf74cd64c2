use mathlib.Core.Path.{sym, ap, ◌∙◌}
use Rattle.link_layout.specs.Connection.{connection_part}
use Rattle.link_layout.proofs.Places.{kept}
use Rattle.link_joining.specs.declared.Turn.{Turn}
use Rattle.link_joining.specs.Meaning.{after_join}
use Rattle.link_layout.proofs.Asked.{gone}
use Rattle.link_joining.proofs.Turns.{connecting_passes, connecting_turns}
use Rattle.link_joining.proofs.join.Goals as goal

pub returns-then-id-word_at : goal.returns-then-id-word_at
returns-then-id-word_at c =
    connecting_passes c.args.part.now c.requires.0 c.args.id c.args.bytes.now c.requires.1 _ c.word_at.ensures.0 c.if-id-word_at.true

pub returns-in-Nothing : goal.returns-in-Nothing
unfolding after_join
returns-in-Nothing c =
    connecting_turns c.args.part.now c.requires.0 c.args.id c.args.bytes.now c.requires.1 _ c.word_at.ensures.0 c.if-id-word_at.false c.join_in.result c.join_in.ensures c.args.part.now
    (λ a tx n t e. sym (kept c.args.part.now c.requires.0) ∙ ap connection_part.put (e ∙ sym (ap (λ (x : Turn). after_join x a tx n t) c.in-Nothing.is)))

pub returns-in-Stands : goal.returns-in-Stands
unfolding after_join
returns-in-Stands c =
    connecting_turns c.args.part.now c.requires.0 c.args.id c.args.bytes.now c.requires.1 _ c.word_at.ensures.0 c.if-id-word_at.false c.join_in.result c.join_in.ensures _
    (λ a tx n t e. c.stand.ensures a tx n t e ∙ ap connection_part.put (sym (ap (λ (x : Turn). after_join x a tx n t) c.in-Stands.is)))

pub returns-in-Over : goal.returns-in-Over
unfolding after_join
returns-in-Over c =
    connecting_turns c.args.part.now c.requires.0 c.args.id c.args.bytes.now c.requires.1 _ c.word_at.ensures.0 c.if-id-word_at.false c.join_in.result c.join_in.ensures _
    (λ a tx n t e. gone c.args.part.now _ c.requires.0 c.zero.ensures ∙ ap connection_part.put (sym (ap (λ (x : Turn). after_join x a tx n t) c.in-Over.is)))
