-- `box_setups::save` meets its contract. Assumes nothing.
use mathlib.Core.Path.{refl, sym}
use Rattle.machine.specs.Channel.{lent, raw_lent, save_setup}
use Rattle.memory.proofs.Seats.{raw_ends, raw_lent_law, raw_looked}
use Rattle.noting.proofs.Laws.{by_code}
use Rattle.box_setups.proofs.save.Goals as goal

pub returns-in_default : goal.returns-in_default
unfolding lent raw_lent
returns-in_default c rates = c.in_default.ensures rates (save_setup c.args.buffer.now) refl

pub slice_bounds-save_in-end : goal.slice_bounds-save_in-end
slice_bounds-save_in-end c = raw_ends _ c.requires _ _ c.in-Some.ensures

pub save_in-saved-requires : goal.save_in-saved-requires
save_in-saved-requires c = raw_lent_law _ c.requires _ _ c.in-Some.ensures

pub note-requires : goal.note-requires
note-requires c = (raw_ends _ c.requires _ _ c.in-Some.ensures, c.code_of.ensures.1)

pub returns : goal.returns
returns c rates =
    by_code (sym c.code_of.ensures.0) (raw_looked _ c.requires _ _ c.in-Some.ensures rates _ refl _ _ _ (by_code c.code_of.ensures.0 (c.save_in-saved.ensures rates _)) _ c.note.ensures)
