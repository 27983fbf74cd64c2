-- `record_writer::write` meets its contract. Assumes nothing.
use native.Mathlib.Omega.{arith}
use borrow.Author.Tests.{lt-ltb, le-ltb}
use Rattle.std.proofs.lemmas.Result.{err_from_is_err_and}
use Rattle.telegram_types.specs.Face.{refusal}
use Rattle.telegram_record.specs.Crossing.{writing, unpacked}
use Rattle.record_writer.proofs.Says.{unsaid, said_written, carried_part, short_write}
use Rattle.record_writer.proofs.write.Goals as goal

pub returns-then-telegram-lt-RECORD : goal.returns-then-telegram-lt-RECORD
unfolding writing refusal
returns-then-telegram-lt-RECORD c = rw (lt-ltb _ 32 c.if-telegram-lt-RECORD.true)

pub returns-then-buffer-lt-ROOM : goal.returns-then-buffer-lt-ROOM
unfolding writing refusal
returns-then-buffer-lt-ROOM c = rw (le-ltb _ 32 c.if-telegram-lt-RECORD.false, lt-ltb _ 8 c.if-buffer-lt-ROOM.true)

pub returns-in_default : goal.returns-in_default
unfolding writing unpacked refusal
returns-in_default c =
    rw (le-ltb _ 32 c.if-telegram-lt-RECORD.false, le-ltb _ 8 c.if-buffer-lt-ROOM.false, unsaid _ _ c.telegram_in.ensures c.in_default.is)

pub returns-in_err-len : goal.returns-in_err-len
returns-in_err-len c =
    let a = c.args in
    let p = err_from_is_err_and c.from_residual.result c.from_residual.ensures.1 in
    rw (p.1, p.2)
    (said_written _ _ a.telegram.now _ a.buffer.now _ _ (carried_part a.telegram.now _ c.carried-end.ensures) c.telegram_in.ensures c.in-Some.is c.if-telegram-lt-RECORD.false c.if-buffer-lt-ROOM.false c.in_err-len.ensures)

pub overflow_cast-result : goal.overflow_cast-result
overflow_cast-result c = let h = short_write _ _ _ _ c.in_ok-len.ensures in omega arith

pub returns : goal.returns
returns c =
    let a = c.args in
    said_written _ _ a.telegram.now _ a.buffer.now _ _ (carried_part a.telegram.now _ c.carried-end.ensures) c.telegram_in.ensures c.in-Some.is c.if-telegram-lt-RECORD.false c.if-buffer-lt-ROOM.false c.in_ok-len.ensures
