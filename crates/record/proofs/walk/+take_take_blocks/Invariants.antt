-- The proof of the cycle of calls {take, take_blocks}: a walk over the part of node i calls itself at lower nodes, and the walk over
-- the blocks of a repeat calls it at the body. The loops' invariants: whatever the narrowed part takes, the whole takes; and so
-- many blocks so far, and any blocks are these and more. Assumes nothing.
use Rattle.std.proofs.Common.{ℕ, ◌+◌, ◌-◌, ◌*◌, ◌≤◌, length}
use Rattle.std.specs.Prelude.{Option}
use Rattle.procedure.specs.Entry.{held}
use Rattle.record.specs.Walk.{EatsAt, PartAt, items_in}
use Rattle.record.proofs.Stays.{StayAt}
use Rattle.record.proofs.walk.+take_take_blocks.Given as goal

abbrev pub invariant-take-loop-item : goal.invariant-take-loop-item
invariant-take-loop-item l = record {
  part : PartAt l.procedure l.s l.i;
  within : l.at ≤ length (items_in l.bytes);
  onward : l.place ≤ l.at;
  lower : l.i ≤ l.node;
  whole : (r : Option ℕ) → EatsAt (held l.procedure.nodes) (items_in l.bytes) l.s l.i l.at r
      → EatsAt (held l.procedure.nodes) (items_in l.bytes) l.start l.node l.place r;
}

abbrev pub decreases-take-loop-item : goal.decreases-take-loop-item
decreases-take-loop-item l = l.i

abbrev pub invariant-take_blocks-loop-bounds : goal.invariant-take_blocks-loop-bounds
invariant-take_blocks-loop-bounds l = record {
  onward : l.place ≤ l.at;
  within : l.at ≤ length (items_in l.bytes);
  counted : l.k ≤ l.at;
  stay : StayAt (held l.procedure.nodes) (items_in l.bytes) l.s l.i l.place l.k l.at;
}

abbrev pub decreases-take_blocks-loop-bounds : goal.decreases-take_blocks-loop-bounds
decreases-take_blocks-loop-bounds l = length (items_in l.bytes) - l.at

abbrev pub decreases-take : goal.decreases-take
decreases-take l = 2 * l.node + 1

abbrev pub decreases-take_blocks : goal.decreases-take_blocks
decreases-take_blocks l = 2 * l.i
