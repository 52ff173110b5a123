-- `follow::run::next_by` meets its contract. The loop's invariant: none of the event nodes with the code below this one leads on, and the run
-- stands as it did. Assumes nothing.
use Prim.Native.Nat.{◌≤◌}
use Rattle.meaning.specs.Expr.{Expr}
use Rattle.meaning.specs.Theory.Spots.{Spot}
use Rattle.plan.specs.Plan.{PlanOf}
use Rattle.states.specs.StateBytes.{place_of}
use Rattle.states.specs.Standing.{StandsAt}
use Rattle.follow.proofs.Running.{Passed}
use Rattle.follow.proofs.run.next_by.Given as goal

abbrev pub invariant-loop-q : goal.invariant-loop-q
invariant-loop-q l =
    (place_of l.standing.reached ≤ l.plan.procedure.now.count)
    × ((e : Expr) (k : Spot e) → PlanOf l.plan e → StandsAt e k l.initial.standing → Passed l.plan.procedure.now.nodes e k l.code l.q l.initial.standing l.standing)
