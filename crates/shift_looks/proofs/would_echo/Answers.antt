-- `shift_looks::would_echo` meets its contract. Assumes nothing.
use mathlib.Core.Path.{refl}
use Rattle.shift_looks.proofs.Looking.{closed_silent, empty_silent, by_loopback}
use Rattle.shift_looks.proofs.would_echo.Goals as goal

pub returns-then-r-eq0 : goal.returns-then-r-eq0
returns-then-r-eq0 c = closed_silent c.args.r.now c.requires.0 c.requires.1 c.if-r-eq0.true

pub returns-then-r-eq0-2 : goal.returns-then-r-eq0-2
returns-then-r-eq0-2 c = empty_silent c.args.r.now c.requires.0 c.requires.1 c.if-r-eq0.false c.if-r-eq0-2.true

pub returns : goal.returns
returns c = by_loopback c.args.r.now c.requires.0 c.requires.1 c.if-r-eq0.false c.if-r-eq0-2.false _ refl
