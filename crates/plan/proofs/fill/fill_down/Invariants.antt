-- `plan::fill::fill_down` meets its contract. The loop's invariant: so many repeats stand below i as the rank says, and what is left of the
-- pass ends as it should.
use mathlib.Core.Path.{◌≡◌}
use Prim.Native.Nat.{◌≤◌}
use Rattle.meaning.specs.Node.{repeats_below}
use Rattle.procedure.specs.Entry.{held}
use Rattle.plan.specs.Filling.{down}
use Rattle.plan.proofs.fill.fill_down.Given as goal

abbrev pub invariant-loop-i : goal.invariant-loop-i
invariant-loop-i l = record {
  counted : l.rank ≡ repeats_below (held l.procedure.nodes) l.i;
  few : l.rank ≤ 32;
  rest : down l.procedure.nodes l.procedure.nulls l.links l.i ≡ down l.procedure.nodes l.procedure.nulls l.initial.links l.procedure.count;
}
