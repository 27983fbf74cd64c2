-- `fault::flow` meets its contract. Assumes nothing.
use mathlib.Core.Path.{sym, ◌∙◌}
use Rattle.fault.specs.Fault.{record_after, no_more, flow_after}
use Rattle.fault.proofs.flow.Goals as goal

pub returns-then-not-on_iso : goal.returns-then-not-on_iso
unfolding flow_after no_more
returns-then-not-on_iso c = rw (sym c.on_iso.ensures ∙ c.if-not-on_iso.true)

pub returns : goal.returns
unfolding flow_after record_after
returns c = rw (sym c.on_iso.ensures ∙ c.if-not-on_iso.false, ← c.record_on.ensures) c.bytes.ensures
