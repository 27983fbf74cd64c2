-- `box_links::link_receive` meets its contract. Assumes nothing.
use Rattle.machine.specs.Channel.{link_receive, lent, raw_lent}
use mathlib.Core.Path.{◌≡◌, refl, sym, ◌∙◌}
use native.Mathlib.Omega.{arith}
use lib.Dec.{lit<}
use lib.ListN.{length}
use Rattle.layout.specs.Sizes.{region_size}
use Rattle.memory.proofs.Seats.{raw_ends, raw_lent_law, raw_called, raw_muted}
use Rattle.noting.proofs.Laws.{by_code}
use Rattle.box_links.proofs.link_receive.Goals as goal

pub returns-in_default : goal.returns-in_default
unfolding lent raw_lent
returns-in_default c rates = c.in_default.ensures rates (link_receive c.args.buffer.now) refl

pub listens-requires : goal.listens-requires
listens-requires c = raw_ends _ c.requires _ _ c.in-Some.ensures

-- a listener
pub note-requires : goal.note-requires
note-requires c = (raw_ends _ c.requires _ _ c.in-Some.ensures, lit< tt)

pub returns-then-listens : goal.returns-then-listens
unfolding lent raw_lent
returns-then-listens c rates =
    raw_muted _ c.requires _ _ c.in-Some.ensures (sym c.listens.ensures ∙ c.if-listens.true) rates _ refl _ c.note.ensures

pub slice_bounds-receive-end : goal.slice_bounds-receive-end
slice_bounds-receive-end c = raw_ends _ c.requires _ _ c.in-Some.ensures

pub receive-received-requires : goal.receive-received-requires
receive-received-requires c = raw_lent_law _ c.requires _ _ c.in-Some.ensures

pub returns : goal.returns
returns c rates =
    let long : length c.receive-received.new.r ≡ region_size = omega arith in
    by_code (sym c.code_of.ensures.0)
    (raw_called _ c.requires _ _ c.in-Some.ensures rates _ (sym c.listens.ensures ∙ c.if-listens.false) _ _ _ _ _ long (by_code c.code_of.ensures.0 (c.receive-received.ensures rates _)) c.note-2.ensures)
