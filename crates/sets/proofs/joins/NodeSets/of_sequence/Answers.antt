-- `sets::joins::NodeSets::of_sequence` meets its contract. Assumes nothing.
use Rattle.sets.proofs.Joining.{joins_sequence}
use Rattle.sets.proofs.joins.NodeSets.of_sequence.Goals as goal

pub returns : goal.returns
returns c = joins_sequence _ _ c.begins_right.result _ _ c.begins_right.ensures c.bitor.ensures c.after_sequence.ensures
