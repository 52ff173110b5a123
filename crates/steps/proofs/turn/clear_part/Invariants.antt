-- `steps::turn::clear_part` meets its contract. The loop's invariant: the counters before the rank are cleared. Assumes nothing.
use Prim.Native.Nat.{◌≤◌, max}
use Rattle.steps.specs.Counts.{Cleared}
use Rattle.steps.proofs.turn.clear_part.Given as goal

abbrev pub invariant-loop-rank : goal.invariant-loop-rank
invariant-loop-rank l = (l.rank ≤ max l.initial.rank l.rank-end) × Cleared l.initial.rank l.rank l.initial.counts l.counts
