use Rattle.text_reader.proofs.Digits.{Read}
use Rattle.text_reader.proofs.number.Given as goal

abbrev pub invariant-loop-c : goal.invariant-loop-c
invariant-loop-c l = Read l.base l.s l.v l.c-index
