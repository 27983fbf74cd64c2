-- `fault::event` meets its contract. Assumes nothing.
use mathlib.Core.Path.{◌∙◌}
use Rattle.fault.specs.Fault.{kind_then, event_fault}
use Rattle.fault.proofs.Parts.{number_good, number_bad, an_edition, no_event, an_event}
use Rattle.fault.proofs.event.Goals as goal

pub returns-in_default : goal.returns-in_default
unfolding event_fault
returns-in_default c = number_bad _ _ (kind_then _ _) _ c.read_number.ensures c.in_default.is c.why-reason.ensures

pub returns-then-kind-eq0 : goal.returns-then-kind-eq0
unfolding event_fault
returns-then-kind-eq0 c = c.edition_fault.ensures ∙ an_edition _ _ _ _ c.if-kind-eq0.true ∙ number_good _ _ (kind_then _ _) _ c.read_number.ensures c.in-Some.is

pub returns-then-kind-gt16 : goal.returns-then-kind-gt16
unfolding event_fault
returns-then-kind-gt16 c = no_event _ _ _ _ c.if-kind-eq0.false c.if-kind-gt16.true ∙ number_good _ _ (kind_then _ _) _ c.read_number.ensures c.in-Some.is

pub returns : goal.returns
unfolding event_fault
returns c = c.arguments.ensures ∙ an_event _ _ _ _ c.if-kind-eq0.false c.if-kind-gt16.false ∙ number_good _ _ (kind_then _ _) _ c.read_number.ensures c.in-Some.is
