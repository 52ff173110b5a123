-- `follow::follow` meets its contract. Assumes nothing.
use Rattle.std.proofs.lemmas.Result.{err_from_is_err_and}
use Rattle.meaning.specs.Promises.{Follows}
use Rattle.follow.proofs.Following.{follows_entered}
use Rattle.follow.proofs.follow.Goals as goal

pub returns-in_err-admit : goal.returns-in_err-admit
returns-in_err-admit c =
    let p = err_from_is_err_and c.from_residual.result c.from_residual.ensures.1 in
    rw (p.1, p.2) (Follows.refused _ c.in_err-admit.ensures)

pub returns : goal.returns
returns c = follows_entered c.in_ok-admit.ensures c.go_on.ensures
