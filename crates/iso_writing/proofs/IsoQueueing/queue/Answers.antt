-- Queueing a message on an ISO 15765 channel meets its contract. Assumes nothing.
use mathlib.Core.Path.{sym, ◌∙◌}
use native.Mathlib.Omega.{arith}
use Rattle.std.proofs.lemmas.Result.{err_from_is_err_and}
use Rattle.iso_records.proofs.Laws.{size_of_good}
use Rattle.codes.proofs.Laws.{not_done}
use Rattle.iso_writing.specs.Written.{talks_by}
use Rattle.iso_writing.proofs.Writing.{is_part, bad_message, no_filter, no_room, room, stored}
use Rattle.iso_writing.proofs.IsoQueueing.queue.Goals as goal

pub returns-in_err-message_code : goal.returns-in_err-message_code
returns-in_err-message_code c =
    let s = c.args.self.now in
    let ts = talks_by s.one s.two in
    let p = err_from_is_err_and c.from_residual.result c.from_residual.ensures.1 in
    rw (p.1, p.2) (bad_message (is_part ts c.requires.0) ts c.args.m.now _ c.in_err-message_code.ensures (not_done c.in_err-message_code.field-0.0))

pub unmatched-requires : goal.unmatched-requires
unmatched-requires c = (c.requires.1, (size_of_good _ c.args.m.now (sym c.in_ok-message_code.ensures)).0)

pub returns-then-unmatched : goal.returns-then-unmatched
returns-then-unmatched c =
    let s = c.args.self.now in
    let ts = talks_by s.one s.two in
    no_filter (is_part ts c.requires.0) ts c.args.m.now (sym c.in_ok-message_code.ensures) (sym c.unmatched.ensures ∙ c.if-unmatched.true)

pub bounds-store-0 : goal.bounds-store-0
bounds-store-0 c = let s = c.args.self.now in omega (arith, (is_part (talks_by s.one s.two) c.requires.0).long)

pub returns-then-held-ge-MOST : goal.returns-then-held-ge-MOST
returns-then-held-ge-MOST c =
    let s = c.args.self.now in
    let ts = talks_by s.one s.two in
    no_room (is_part ts c.requires.0) ts c.args.m.now (sym c.in_ok-message_code.ensures) (sym c.unmatched.ensures ∙ c.if-unmatched.false) c.if-held-ge-MOST.true

pub slice_bounds-put_clean-end : goal.slice_bounds-put_clean-end
slice_bounds-put_clean-end c = let s = c.args.self.now in omega (arith, (is_part (talks_by s.one s.two) c.requires.0).long, c.if-held-ge-MOST.false)

pub put_clean-requires : goal.put_clean-requires
put_clean-requires c =
    let s = c.args.self.now in
    let ts = talks_by s.one s.two in
    (room (is_part ts c.requires.0) ts c.if-held-ge-MOST.false, c.requires.1, (size_of_good _ c.args.m.now (sym c.in_ok-message_code.ensures)).1)

pub returns : goal.returns
returns c =
    let s = c.args.self.now in
    let ts = talks_by s.one s.two in
    stored (is_part ts c.requires.0) ts c.args.m.now _ (sym c.in_ok-message_code.ensures) (sym c.unmatched.ensures ∙ c.if-unmatched.false) c.if-held-ge-MOST.false c.put_clean.ensures
