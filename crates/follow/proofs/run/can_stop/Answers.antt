-- `follow::run::can_stop` meets its contract. Assumes nothing.
use Rattle.follow.proofs.Running.{stop_start, stop_place}
use Rattle.follow.proofs.run.can_stop.Goals as goal

pub returns-in-None : goal.returns-in-None
returns-in-None c =
    let p = c.args.plan.now.procedure.now in
    λ e k pl s. stop_start p.nodes p.nulls p.count e k c.args.standing.now.counts pl.listing pl.empties (rw c.in-None.is at s)

pub returns-in-Some : goal.returns-in-Some
returns-in-Some c =
    λ e k pl s.
    stop_place c.args.plan.now.procedure.now.count e k c.in-Some.p _ c.args.standing.now.counts pl.listing.sized (rw c.in-Some.is at s) (λ p here m. c.can_end.ensures e p pl here m)
