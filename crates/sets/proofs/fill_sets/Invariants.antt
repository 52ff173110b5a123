-- `sets::fill_sets` meets its contract. Assumes nothing.
use Rattle.sets.proofs.Passing.{Passed}
use Rattle.sets.proofs.fill_sets.Given as goal

abbrev pub invariant-loop-i : goal.invariant-loop-i
invariant-loop-i l = Passed l.procedure.nodes l.procedure.count l.firsts l.afters l.found l.i
