-- `steps::turn::mark` meets its contract. The loop's invariant: marking on from y ends as marking from the start does. Assumes nothing.
use mathlib.Core.List.{List}
use Prim.Native.Nat.{ℕ, ◌-◌}
use Rattle.steps.specs.Counts.{MarksUp}
use Rattle.plan.specs.Plan.{above_at}
use Rattle.steps.proofs.turn.mark.Given as goal

abbrev pub invariant-loop-y : goal.invariant-loop-y
invariant-loop-y l =
    (z : List ℕ) → MarksUp l.plan.procedure.now.nodes l.plan.links.now l.x l.y l.counts z
    → MarksUp l.plan.procedure.now.nodes l.plan.links.now l.x (above_at l.plan.links.now l.q) l.initial.counts z

abbrev pub decreases-loop-y : goal.decreases-loop-y
decreases-loop-y l = l.x - l.y
