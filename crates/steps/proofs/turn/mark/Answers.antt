-- `steps::turn::mark` meets its contract: each node is one step of the marking. Assumes nothing.
use Rattle.steps.specs.Counts.{done, next}
use Rattle.steps.proofs.turn.mark.Goals as goal

pub loop-y-preserved : goal.loop-y-preserved
loop-y-preserved c = λ z w.
    c.loop-y.invariant z (next c.loop-y-test.true (rw c.mark_at.ensures at (rw c.above-y-in-loop-y.ensures.value at w)))

pub returns : goal.returns
returns c = c.loop-y.invariant _ (done c.loop-y-test.false)
