use Rattle.hexadecimal.proofs.Laws.{Taken}
use Rattle.hexadecimal.proofs.read_hexadecimal.Given as goal

abbrev pub invariant-loop-b : goal.invariant-loop-b
invariant-loop-b l = Taken l.digits l.n l.good l.b-index
