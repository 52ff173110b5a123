-- `steps::step` meets its contract: the climb goes the way of the tree, and turns at a node of the plan. Assumes nothing.
use Rattle.steps.proofs.Stepping.{turns_within, step_turns, step_stays}
use Rattle.steps.proofs.step.Goals as goal

pub turn-requires-clause-le_x : goal.turn-requires-clause-le_x
turn-requires-clause-le_x c = (turns_within c.args.plan.now.rises c.requires.at_lt_n c.climb.ensures c.in-At.is).0

pub turn-requires-clause-lt_n : goal.turn-requires-clause-lt_n
turn-requires-clause-lt_n c = (turns_within c.args.plan.now.rises c.requires.at_lt_n c.climb.ensures c.in-At.is).1

pub returns-in-At : goal.returns-in-At
returns-in-At c =
    let p = c.args.plan.now in
    let f = p.procedure.now in
    λ e at pl k here m.
    step_turns f.nodes f.starts f.nulls p.links.now c.args.counts.now f.count c.args.q c.args.at _ e at pl here m c.climb.ensures _ _ k
    c.in-At.is
    c.turn.ensures

pub returns-in-Ends : goal.returns-in-Ends
returns-in-Ends c =
    let p = c.args.plan.now in
    let f = p.procedure.now in
    λ e at pl k here m.
    step_stays f.nodes f.starts f.nulls p.links.now c.args.counts.now f.count c.args.q c.args.at _ e at pl here m c.climb.ensures k
    c.in-Ends.is
