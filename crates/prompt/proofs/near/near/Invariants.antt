-- `prompt::near::near` meets its contract. The invariant: whatever the way up from x comes to, the way up from p comes to.
use mathlib.Core.Bool.{Bool}
use Prim.Native.Nat.{◌≤◌, ◌-◌}
use Rattle.plan.specs.Plan.{above_at}
use Rattle.prompt.proofs.Nearby.{Nears}
use Rattle.prompt.proofs.near.near.Given as goal

abbrev pub invariant-loop-x : goal.invariant-loop-x
invariant-loop-x l = record {
  some : 1 ≤ l.x;
  on : (r : Bool) → Nears l.plan l.q l.x r → Nears l.plan l.q (above_at l.plan.links.now l.p) r;
}

abbrev pub decreases-loop-x : goal.decreases-loop-x
decreases-loop-x l = l.plan.procedure.now.count - l.x
