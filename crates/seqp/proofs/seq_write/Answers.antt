-- `seqp::seq_write` meets its promise: each arm gives the numbers of its answer, and the space as Write leaves it. Assumes nothing.
use mathlib.Core.Path.{refl}
use Rattle.std.specs.Prelude.{Ok, Err}
use Rattle.meaning.specs.Numbers.{wrote}
use Rattle.meaning.specs.Promises.{WritePromise}
use Rattle.seqp.proofs.seq_write.Goals as goal

pub returns-in-Ok : goal.returns-in-Ok
unfolding WritePromise
returns-in-Ok c = (Ok c.in-Ok.bytes, c.in-Ok.ensures, refl)

pub returns-in-Err : goal.returns-in-Err
unfolding WritePromise
returns-in-Err c = (Err c.in-Err.refusal, c.in-Err.ensures, λ i. wrote (c.number_of.ensures i) 0)
