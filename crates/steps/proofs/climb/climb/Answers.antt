-- `steps::climb::climb` meets its contract: each look is one step of the way. Assumes nothing.
use mathlib.Core.Path.{sym, ◌∙◌}
use native.Mathlib.Omega.{arith}
use Rattle.steps.specs.Climb.{past, turns, stops, on}
use Rattle.steps.proofs.climb.climb.Goals as goal

pub returns-in-Turns : goal.returns-in-Turns
returns-in-Turns c = c.loop-x.invariant.1 _ (turns c.loop-x-test.true (sym c.look_at.ensures ∙ c.in-Turns.is))

pub returns-in-Stops : goal.returns-in-Stops
returns-in-Stops c = c.loop-x.invariant.1 _ (stops c.loop-x-test.true (sym c.look_at.ensures ∙ c.in-Stops.is))

pub loop-x-preserved : goal.loop-x-preserved
loop-x-preserved c =
    let up = c.args.plan.now.rises c.loop-x.x c.loop-x-test.true in (
      omega (arith, c.above-x-in-On.ensures.value),
      λ r w. c.loop-x.invariant.1 r (on c.loop-x-test.true (sym c.look_at.ensures ∙ c.in-On.is) (rw c.above-x-in-On.ensures.value at w)),
    )

pub returns : goal.returns
returns c = c.loop-x.invariant.1 _ (past c.loop-x-test.false)
