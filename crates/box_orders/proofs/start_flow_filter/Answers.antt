-- `box_orders::start_flow_filter` meets its contract: on a raw region the third record is not looked at. Assumes nothing.
use mathlib.Core.Path.{◌≡◌, refl, ◌∙◌}
use mathlib.Core.List.{[]}
use Rattle.std.proofs.Common.{rules}
use Rattle.codes.specs.Code.{code_of, value_of}
use Rattle.machine.specs.Channel.{lent, start_filter, start_flow}
use Rattle.layout.specs.Promise.{gives, call_outcome}
use Rattle.memory.specs.Memory.{load}
use Rattle.box_orders.proofs.Laws.{no_look}
use Rattle.box_orders.proofs.start_flow_filter.Goals as goal

pub returns : goal.returns
unfolding lent
returns c rates =
    c.on_channel.ensures rates (start_flow c.args.kind c.args.mask.now c.args.pattern.now c.args.flow.now) value_of
    (record { speaks_so = refl; done = λ r r' a o d. let e : gives (code_of a) (value_of a) [] r' ≡ call_outcome rates (load c.args.mem.now).clock r (start_filter c.args.kind c.args.mask.now c.args.pattern.now) = search rules in e ∙ no_look _ _ _ _ _ _ _ })
    (record { both = refl; done = λ r r' a o d. search rules })
    (λ _. refl) refl
