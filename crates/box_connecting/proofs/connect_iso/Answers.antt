-- `box_connecting::connect_iso` meets its contract. Assumes nothing.
use mathlib.Core.Path.{sym}
use Rattle.box_connecting.proofs.Laws.{iso_ends, iso_lent, iso_connected, iso_note_lent, iso_in_use}
use Rattle.noting.proofs.Laws.{by_code}
use Rattle.box_connecting.proofs.connect_iso.Goals as goal

pub slice_bounds-connect_in-end : goal.slice_bounds-connect_in-end
slice_bounds-connect_in-end c = iso_ends _ c.requires.0 _ c.requires.1

pub connect_in-told-requires : goal.connect_in-told-requires
connect_in-told-requires c = iso_lent _ c.requires.0 _ c.requires.1

pub note-requires : goal.note-requires
note-requires c =
    iso_note_lent _ c.requires.0 _ c.requires.1 _ _ _ _ _ _ (by_code c.code_of-code.ensures.0 c.connect_in-told.ensures) c.if-code-eq-IN_USE.true

pub returns-then-code-eq-IN_USE : goal.returns-then-code-eq-IN_USE
returns-then-code-eq-IN_USE c =
    by_code (sym c.code_of-code.ensures.0)
    (iso_in_use _ c.requires.0 _ c.requires.1 _ _ _ _ _ _ (by_code c.code_of-code.ensures.0 c.connect_in-told.ensures) c.if-code-eq-IN_USE.true _ c.note.ensures)

pub returns-else-code-eq-IN_USE : goal.returns-else-code-eq-IN_USE
returns-else-code-eq-IN_USE c =
    by_code (sym c.code_of-code.ensures.0)
    (iso_connected _ c.requires.0 _ c.requires.1 _ _ _ _ _ _ (by_code c.code_of-code.ensures.0 c.connect_in-told.ensures) c.if-code-eq-IN_USE.false)
