-- `steps::climb::climb` meets its contract. The loop's invariant: wherever the way from x leads, the way from the start leads there. Assumes nothing.
use Prim.Native.Nat.{◌≤◌, ◌-◌}
use Rattle.steps.specs.Climb.{ClimbsBy}
use Rattle.plan.specs.Plan.{above_at}
use Rattle.steps.specs.declared.climb.Turn.{Turn}
use Rattle.steps.proofs.climb.climb.Given as goal

abbrev pub invariant-loop-x : goal.invariant-loop-x
invariant-loop-x l =
    (1 ≤ l.x) × ((r : Turn) → ClimbsBy l.plan l.counts l.q l.x r → ClimbsBy l.plan l.counts l.q (above_at l.plan.links.now l.p) r)

abbrev pub decreases-loop-x : goal.decreases-loop-x
decreases-loop-x l = l.plan.procedure.now.count - l.x
