-- `sets::joins::after_sequence` meets its contract. Assumes nothing.
use Rattle.sets.proofs.Joining.{after_either}
use Rattle.sets.proofs.joins.after_sequence.Goals as goal

pub returns-then-r : goal.returns-then-r
returns-then-r c =
    after_either _ _ c.is_empty.result _ _ _ c.if-r.true c.is_empty.ensures.some c.only_if-follows.ensures c.bitor.ensures c.bitor-then-r.ensures
