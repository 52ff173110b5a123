-- `plan::fill::link_at` meets its contract: the children of a node stand below it.
use native.Mathlib.Omega.{arith}
use Rattle.plan.proofs.Links.{before_choice, before_repeat, before_sequence, left_choice, left_sequence}
use Rattle.plan.proofs.fill.link_at.Goals as goal

pub tell-requires-clause-c_bound : goal.tell-requires-clause-c_bound
tell-requires-clause-c_bound c = omega (arith, left_choice c.requires c.in-Choice.is)

pub overflow_sub-i : goal.overflow_sub-i
overflow_sub-i c = before_choice c.requires c.in-Choice.is

pub bounds-procedure-left : goal.bounds-procedure-left
bounds-procedure-left c = omega (arith, left_sequence c.requires c.in-Sequence.is)

pub overflow_sub-right : goal.overflow_sub-right
overflow_sub-right c = before_sequence c.requires c.in-Sequence.is

pub tell-requires-in-Sequence-clause-c_bound : goal.tell-requires-in-Sequence-clause-c_bound
tell-requires-in-Sequence-clause-c_bound c = omega (arith, left_sequence c.requires c.in-Sequence.is)

pub overflow_sub-i-in-Sequence : goal.overflow_sub-i-in-Sequence
overflow_sub-i-in-Sequence c = before_sequence c.requires c.in-Sequence.is

pub overflow_sub-i-in-Repeat : goal.overflow_sub-i-in-Repeat
overflow_sub-i-in-Repeat c = before_repeat c.requires c.in-Repeat.is
