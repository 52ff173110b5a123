-- `seqp::seq_follow` meets its promise: each arm gives the numbers of its answer, and the state as Follow leaves it. Assumes nothing.
use Rattle.std.specs.Prelude.{Ok, Err}
use Rattle.meaning.specs.Numbers.{followed}
use Rattle.meaning.specs.Promises.{FollowPromise}
use Rattle.seqp.proofs.seq_follow.Goals as goal

pub returns-in-Ok : goal.returns-in-Ok
unfolding FollowPromise
returns-in-Ok c = (Ok c.in-Ok.followed, c.in-Ok.ensures, λ i. followed 0 c.in-Ok.followed.taken (c.verdict_number.ensures i))

pub returns-in-Err : goal.returns-in-Err
unfolding FollowPromise
returns-in-Err c = (Err c.in-Err.refusal, c.in-Err.ensures, λ i. followed (c.number_of.ensures i) 0 0)
