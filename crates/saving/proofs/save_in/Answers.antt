-- `saving::save_in` meets its contract: too short, or the store at the buffer's start. Assumes nothing.
use native.Mathlib.Omega.{arith}
use Rattle.saving.proofs.Laws.{store_small, save_short, save_done}
use Rattle.saving.proofs.save_in.Goals as goal

pub returns-then-buffer-store_size : goal.returns-then-buffer-store_size
returns-then-buffer-store_size c =
    λ rates t. save_short c.args.r.now c.requires rates t c.args.buffer.now (omega (arith, c.store_size.ensures, c.if-buffer-store_size.true))

pub overflow_cast-result : goal.overflow_cast-result
overflow_cast-result c = record { fits = omega (arith, c.put_store-size.ensures.ends, store_small c.args.r.now c.requires) }

pub returns : goal.returns
returns c =
    λ rates t. save_done c.args.r.now c.requires rates t c.args.buffer.now (omega (arith, c.store_size.ensures, c.if-buffer-store_size.false)) _ _ c.put_store-size.ensures
