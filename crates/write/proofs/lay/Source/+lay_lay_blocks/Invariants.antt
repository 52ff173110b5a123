-- The proof of the cycle of calls {lay, lay_blocks}: a walk over the part of node i calls itself at lower nodes, and the walk over the
-- blocks of a repeat calls it at the body. The loops' invariants: whatever the narrowed part lays from here, the whole lays; and so
-- many blocks so far, and any blocks are these and more. Assumes nothing.
use Prim.Native.Nat.{◌+◌, ◌-◌, ◌*◌}
use lib.ListN.{length}
use Rattle.write.specs.Lay.{run_of}
use Rattle.write.proofs.Walking.{Blocks, Walk}
use Rattle.write.proofs.lay.Source.+lay_lay_blocks.Given as goal

abbrev pub invariant-lay-loop-at : goal.invariant-lay-loop-at
invariant-lay-loop-at l = Walk l.self l.fn.space l.node l.fn.from l.i l.at l.space

abbrev pub decreases-lay-loop-at : goal.decreases-lay-loop-at
decreases-lay-loop-at l = l.i

abbrev pub invariant-lay_blocks-loop-bounds : goal.invariant-lay_blocks-loop-bounds
invariant-lay_blocks-loop-bounds l = Blocks l.self l.fn.space l.i l.bounds l.fn.from l.k l.at l.space

abbrev pub decreases-lay_blocks-loop-bounds : goal.decreases-lay_blocks-loop-bounds
decreases-lay_blocks-loop-bounds l = length (run_of l.self) - l.at.event

abbrev pub decreases-lay : goal.decreases-lay
decreases-lay l = 2 * l.node + 1

abbrev pub decreases-lay_blocks : goal.decreases-lay_blocks
decreases-lay_blocks l = 2 * l.i
