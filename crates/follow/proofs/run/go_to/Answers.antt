-- `follow::run::go_to` meets its contract. Assumes nothing.
use Rattle.follow.proofs.Running.{from_start, from_place}
use Rattle.follow.proofs.run.go_to.Goals as goal

pub returns-in-None : goal.returns-in-None
returns-in-None c =
    λ e k pl kind s.
    from_start e k c.args.q _ c.args.counts.now _ (rw c.in-None.is at s) (λ u. c.start.ensures c.args.plan.now.procedure.now.nulls e pl kind u)

pub returns-in-Some : goal.returns-in-Some
returns-in-Some c =
    λ e k pl kind s.
    from_place e k c.in-Some.p c.args.q _ c.args.counts.now _ (rw c.in-Some.is at s) (λ p here m. c.step.ensures e p pl kind here m)
