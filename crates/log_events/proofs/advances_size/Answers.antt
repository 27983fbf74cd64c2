-- `log_events::advances_size` meets its contract. Assumes nothing.
use Prim.Native.Nat.{◌%◌}
use native.Mathlib.Omega.{arith}
use Rattle.number.proofs.Laws.{written_short}
use Rattle.candump.specs.Line.{second}
use Rattle.log_events.proofs.Sizes.{whole_seconds, and_a_rest}
use Rattle.log_events.proofs.advances_size.Goals as goal

pub returns-then-rest-lt1 : goal.returns-then-rest-lt1
returns-then-rest-lt1 c = whole_seconds _ c.if-rest-lt1.true

pub overflow_add-result-2 : goal.overflow_add-result-2
overflow_add-result-2 c = record { fits = omega (arith, c.number_size.ensures, (written_short (c.args.apart % second)).1) }

pub returns : goal.returns
returns c = and_a_rest _ c.if-rest-lt1.false _ c.number_size.ensures
