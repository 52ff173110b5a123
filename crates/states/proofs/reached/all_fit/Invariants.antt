-- `states::reached::all_fit` meets its contract. The loop's invariant: each repeat of a rank below this one passes. Assumes nothing.
use Rattle.states.specs.Standing.{AllFit}
use Rattle.states.proofs.reached.all_fit.Given as goal

abbrev pub invariant-loop-rank : goal.invariant-loop-rank
invariant-loop-rank l = AllFit l.procedure.nodes l.procedure.starts l.procedure.nulls l.procedure.repeats l.counts l.p l.rank
