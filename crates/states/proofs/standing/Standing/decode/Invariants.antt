-- `states::standing::Standing::decode` meets its contract. The loop's invariant: the counters so far are those that the bytes hold. Assumes
-- nothing.
use Rattle.states.proofs.StateBytes.{Read}
use Rattle.states.proofs.standing.Standing.decode.Given as goal

abbrev pub invariant-loop-rank : goal.invariant-loop-rank
invariant-loop-rank l = Read l.bytes l.count-items l.rank
