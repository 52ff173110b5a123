-- `states::standing::Standing::encode` meets its contract. The loop's invariant: the bytes hold the place and the counters so far. Assumes
-- nothing.
use mathlib.Core.Path.{◌≡◌}
use mathlib.Core.List.{◌∷◌}
use Prim.Native.Nat.{◌+◌}
use lib.ListN.{length}
use Rattle.states.proofs.StateBytes.{Filled}
use Rattle.states.proofs.standing.Standing.encode.Given as goal

abbrev pub invariant-loop-rank : goal.invariant-loop-rank
invariant-loop-rank l = (length l.bytes ≡ 66) × Filled l.bytes (l.place ∷ l.self.counts) (l.rank + 1)
