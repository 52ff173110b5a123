-- `procedure::order::find_starts` meets its contract. The loop's invariant: the starts below i are those of the nodes' parts.
-- Assumes nothing.
use mathlib.Core.Path.{◌≡◌}
use lib.ListN.{length}
use Rattle.procedure.specs.Entry.{held}
use Rattle.procedure.specs.Listing.{TellsStarts}
use Rattle.procedure.proofs.order.find_starts.Given as goal

abbrev pub invariant-loop-i : goal.invariant-loop-i
invariant-loop-i l = (length l.starts ≡ 512) × TellsStarts (held l.nodes) l.starts l.i
