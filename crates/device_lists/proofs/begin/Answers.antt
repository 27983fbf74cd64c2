-- `device_lists::begin` meets its contract. Assumes nothing.
use mathlib.Core.Path.{ap, ◌∙◌}
use Prim.Native.Nat.{ℕ}
use native.Mathlib.Omega.{arith}
use Rattle.std.proofs.lemmas.Result.{err_from_is_err_and}
use Rattle.layout.specs.Promise as raw_promise
use Rattle.iso_layout.specs.Sizes.{iso_last_at}
use Rattle.memory.specs.Promise.{noted_in}
use Rattle.memory.proofs.Seats.{raw_ends, iso_ends}
use Rattle.seats.proofs.Laws.{raw_seat, iso_seat}
use Rattle.device_lists.proofs.Refused.{no_memory, no_channel, raw_too_many, iso_too_many}
use Rattle.device_lists.proofs.begin.Goals as goal

pub returns-in_err-check : goal.returns-in_err-check
returns-in_err-check c =
    let p = err_from_is_err_and c.from_residual.result c.from_residual.ensures.1 in
    rw (p.1, p.2) (no_memory _ _ _ _ c.in_err-check.ensures)

pub returns-in_default : goal.returns-in_default
returns-in_default c = no_channel _ _ _ c.in_default.ensures

pub note-requires : goal.note-requires
note-requires c =
    let told = c.from.ensures in
    (raw_ends _ c.in_ok-check.ensures _ _ (raw_seat _ _ _ c.in-Raw.is c.in-Some.ensures), omega arith)

pub note-requires-in-Iso : goal.note-requires-in-Iso
note-requires-in-Iso c =
    let told = c.from-in-Iso.ensures in
    (iso_ends _ c.in_ok-check.ensures _ _ (iso_seat _ _ _ c.in-Iso.is c.in-Some.ensures), omega arith)

pub returns-in-Raw : goal.returns-in-Raw
returns-in-Raw c =
    raw_too_many _ _ _ c.in_ok-check.ensures _ (raw_seat _ _ _ c.in-Raw.is c.in-Some.ensures) c.if-n-le-MOST.false
    (c.note.ensures ∙ ap (λ (k : ℕ). raw_promise.noted_in c.in-Raw.at k c.args.mem.now) c.from.ensures)

pub returns-in-Iso : goal.returns-in-Iso
returns-in-Iso c =
    iso_too_many _ _ _ c.in_ok-check.ensures _ (iso_seat _ _ _ c.in-Iso.is c.in-Some.ensures) c.if-n-le-MOST.false
    (c.note-in-Iso.ensures ∙ ap (λ (k : ℕ). noted_in iso_last_at c.in-Iso.at k c.args.mem.now) c.from-in-Iso.ensures)
