-- `follow::run::verdict` meets its contract. Assumes nothing.
use Rattle.meaning.specs.Theory.Runs.{broken_at}
use Rattle.follow.proofs.Running.{stands_complete, stands_unfinished}
use Rattle.follow.proofs.run.verdict.Goals as goal

pub returns-then-taken-given : goal.returns-then-taken-given
returns-then-taken-given c = λ e k pl s. broken_at c.if-taken-given.true

pub returns-then-can_stop : goal.returns-then-can_stop
returns-then-can_stop c =
    λ e k pl s. stands_complete e k _ _ _ c.requires.taken_le_given c.if-taken-given.false c.if-can_stop.true (c.can_stop.ensures e k pl s)

pub returns-else-can_stop : goal.returns-else-can_stop
returns-else-can_stop c =
    λ e k pl s. stands_unfinished e k _ _ _ c.requires.taken_le_given c.if-taken-given.false c.if-can_stop.false (c.can_stop.ensures e k pl s)
