-- `procedure::fill::read_nodes` meets its contract. The loop's invariant: the nodes below i are those of the file, and each keeps to the
-- table. Assumes nothing.
use mathlib.Core.Path.{◌≡◌}
use lib.ListN.{length}
use Rattle.meaning.specs.File.{TableBelow}
use Rattle.procedure.specs.Entry.{Tied}
use Rattle.procedure.proofs.fill.read_nodes.Given as goal

abbrev pub invariant-loop-i : goal.invariant-loop-i
invariant-loop-i l = (length l.nodes ≡ 512) × Tied l.file l.nodes l.i × TableBelow l.file l.i
