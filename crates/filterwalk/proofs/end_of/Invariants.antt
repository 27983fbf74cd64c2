use Rattle.filterwalk.specs.Columns.{EmptyFrom}
use Rattle.filterwalk.proofs.end_of.Given as goal

abbrev pub invariant-loop-last : goal.invariant-loop-last
invariant-loop-last l = EmptyFrom l.heads l.last
