-- `sets::conflict::Conflict::between` meets its contract, by the numbers of the four kinds. Assumes nothing.
use Rattle.meaning.specs.Conflict.{kind_number}
use Rattle.sets.proofs.conflict.Conflict.between.Goals as goal

pub returns : goal.returns
returns c = c.shared_at.ensures kind_number
