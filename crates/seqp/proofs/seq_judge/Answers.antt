-- `seqp::seq_judge` meets its promise: each arm gives the numbers of its answer. Assumes nothing.
use borrow.Author.Rules.{rules}
use mathlib.Core.Path.{refl, ap}
use Rattle.std.specs.Prelude.{Ok, Err}
use Rattle.meaning.specs.Numbers.{JudgeNumbers}
use Rattle.meaning.specs.Promises.{JudgePromise}
use Rattle.meaning.proofs.Promises.JudgeNumbers.{refused_node}
use Rattle.seqp.proofs.seq_judge.Goals as goal

pub overflow_cast-node : goal.overflow_cast-node
overflow_cast-node c =
    let small = refused_node _ c.in-Err.ensures refl in
    let same = ap (λ (n : JudgeNumbers). n.node) c.from-row.ensures in
    search rules

pub returns-in-Ok : goal.returns-in-Ok
unfolding JudgePromise
returns-in-Ok c = (Ok tt, c.in-Ok.ensures, refl)

pub returns-in-Err : goal.returns-in-Err
unfolding JudgePromise
returns-in-Err c = (Err c.in-Err.refusal, c.in-Err.ensures, c.from-row.ensures)
