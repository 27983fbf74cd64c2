use Rattle.log_input.proofs.Cutting.{Looked}
use Rattle.log_input.proofs.whole_lines.Given as goal

abbrev pub invariant-loop-i : goal.invariant-loop-i
invariant-loop-i l = Looked l.log l.end l.line l.i
