-- `follow::run::run` meets its contract. The loop's invariant: so many events are taken, and whatever goes on from where the run stands
-- goes on from the first spot. Assumes nothing.
use Prim.Native.Nat.{◌≤◌}
use Rattle.meaning.specs.Expr.{Expr}
use Rattle.meaning.specs.Theory.Spots.{Spot}
use Rattle.plan.specs.Plan.{PlanOf}
use Rattle.states.specs.StateBytes.{place_of}
use Rattle.states.specs.Standing.{StandsAt}
use Rattle.follow.proofs.Running.{Along}
use Rattle.follow.proofs.run.run.Given as goal

abbrev pub invariant-loop-taken : goal.invariant-loop-taken
invariant-loop-taken l =
    (place_of l.standing.reached ≤ l.plan.procedure.now.count)
    × ((e : Expr) (k : Spot e) → PlanOf l.plan e → StandsAt e k l.initial.standing → Along e k l.events l.taken l.standing)
