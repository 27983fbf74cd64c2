-- Queueing a message of raw CAN meets its contract. Assumes nothing.
use mathlib.Core.Path.{sym}
use native.Mathlib.Omega.{arith}
use Rattle.std.proofs.lemmas.Result.{err_from_is_err_and}
use Rattle.message.proofs.Laws.{size_of_good}
use Rattle.codes.proofs.Laws.{not_done}
use Rattle.writing.proofs.Writing.{is_part, bad_message, no_room, room, stored}
use Rattle.writing.proofs.RawQueueing.queue.Goals as goal

pub returns-in_err-message_code : goal.returns-in_err-message_code
returns-in_err-message_code c =
    let p = err_from_is_err_and c.from_residual.result c.from_residual.ensures.1 in
    rw (p.1, p.2) (bad_message (is_part c.requires.0) c.args.m.now _ c.in_err-message_code.ensures (not_done c.in_err-message_code.field-0.0))

pub bounds-store-0 : goal.bounds-store-0
bounds-store-0 c = omega (arith, (is_part c.requires.0).long)

pub returns-then-held-ge-MOST : goal.returns-then-held-ge-MOST
returns-then-held-ge-MOST c = no_room (is_part c.requires.0) c.args.m.now (sym c.in_ok-message_code.ensures) c.if-held-ge-MOST.true

pub slice_bounds-put_clean-end : goal.slice_bounds-put_clean-end
slice_bounds-put_clean-end c = omega (arith, (is_part c.requires.0).long, c.if-held-ge-MOST.false)

pub put_clean-requires : goal.put_clean-requires
put_clean-requires c = (room (is_part c.requires.0) c.if-held-ge-MOST.false, c.requires.1, (size_of_good _ c.args.m.now (sym c.in_ok-message_code.ensures)).1)

pub returns : goal.returns
returns c = stored (is_part c.requires.0) c.args.m.now _ (sym c.in_ok-message_code.ensures) c.if-held-ge-MOST.false c.put_clean.ensures
