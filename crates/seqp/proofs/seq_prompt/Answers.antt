-- `seqp::seq_prompt` meets its promise: each arm gives the numbers of its answer. Assumes nothing.
use mathlib.Core.Path.{refl}
use Rattle.std.specs.Prelude.{Ok, Err}
use Rattle.meaning.specs.Numbers.{prompted}
use Rattle.meaning.specs.Promises.{PromptPromise}
use Rattle.seqp.proofs.seq_prompt.Goals as goal

pub returns-in-Ok : goal.returns-in-Ok
unfolding PromptPromise
returns-in-Ok c = (Ok c.in-Ok.lit, c.in-Ok.ensures, refl)

pub returns-in-Err : goal.returns-in-Err
unfolding PromptPromise
returns-in-Err c = (Err c.in-Err.refusal, c.in-Err.ensures, λ i. prompted (c.number_of.ensures i) 0 0)
