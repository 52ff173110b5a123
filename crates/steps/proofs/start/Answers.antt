-- `steps::start` meets its contract: the test of the root says whether the whole can begin with q. Assumes nothing.
use mathlib.Core.Bool.{true≢false, false≢true}
use mathlib.Core.Path.{refl, sym, ◌∙◌}
use Rattle.steps.proofs.Stepping.{start_by_test}
use Rattle.steps.proofs.start.Goals as goal

pub returns-then-begins : goal.returns-then-begins
returns-then-begins c =
    let p = c.args.plan.now in
    let f = p.procedure.now in
    λ nulls e pl k m.
    start_by_test f.nodes f.starts nulls p.links.now c.args.counts.now _ f.count c.args.q _ e pl k m
    c.begins-begins.ensures
    (λ yes. c.mark.ensures)
    (λ no. absurd (true≢false (sym c.if-begins.true ∙ no)))

pub returns-else-begins : goal.returns-else-begins
returns-else-begins c =
    let p = c.args.plan.now in
    let f = p.procedure.now in
    λ nulls e pl k m.
    start_by_test f.nodes f.starts nulls p.links.now c.args.counts.now _ f.count c.args.q _ e pl k m
    c.begins-begins.ensures
    (λ yes. absurd (false≢true (sym c.if-begins.false ∙ yes)))
    (λ no. refl)
