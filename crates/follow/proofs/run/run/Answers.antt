use mathlib.Core.Path.{refl}
use native.Mathlib.Omega.{arith}
use Rattle.follow.proofs.Running.{along_more, ran_stuck, ran_all}
use Rattle.follow.proofs.run.run.Goals as goal

pub returns-then-not-next_by-clause-ran_to : goal.returns-then-not-next_by-clause-ran_to
returns-then-not-next_by-clause-ran_to c =
    λ e k pl s.
    let along = c.loop-taken.invariant.1 e k pl s in
    ran_stuck along c.loop-taken-test.true refl c.if-not-next_by.true (c.next_by.ensures.nexted e along.spot pl along.stood)

pub loop-taken-preserved : goal.loop-taken-preserved
loop-taken-preserved c = (
  c.next_by.ensures.upper_bound,
  λ e k pl s.
      let along = c.loop-taken.invariant.1 e k pl s in
      along_more along c.loop-taken-test.true refl c.if-not-next_by.false (c.next_by.ensures.nexted e along.spot pl along.stood),
)

pub returns-clause-ran_to : goal.returns-clause-ran_to
returns-clause-ran_to c = λ e k pl s. ran_all (c.loop-taken.invariant.1 e k pl s) (omega arith)
