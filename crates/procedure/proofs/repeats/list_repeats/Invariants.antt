-- `procedure::repeats::list_repeats` meets its contract. The loop's invariant: the list begins with the repeats below i, and what stands
-- in the table below i is true of the parts of those nodes. Assumes nothing.
use mathlib.Core.Path.{◌≡◌}
use Prim.Native.Nat.{◌≤◌}
use lib.ListN.{length}
use Rattle.procedure.specs.Entry.{held}
use Rattle.procedure.specs.Listing.{TellsNulls, TellsRepeats}
use Rattle.procedure.proofs.repeats.list_repeats.Given as goal

abbrev pub invariant-loop-i : goal.invariant-loop-i
invariant-loop-i l =
    (length l.nulls ≡ 512) × TellsNulls (held l.nodes) l.nulls l.i × (length l.repeats ≡ 32) × (l.count ≤ 32) × TellsRepeats (held l.nodes) l.repeats l.i l.count
