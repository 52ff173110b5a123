use mathlib.Core.Path.{refl}
use native.Mathlib.Omega.{arith}
use lib.ListN.{length-set}
use Rattle.procedure.specs.Records.{all}
use Rattle.procedure.proofs.Records.{record_off, table_more, tied_more}
use Rattle.procedure.proofs.fill.read_nodes.Goals as goal

pub returns-in_default : goal.returns-in_default
returns-in_default c =
    record_off c.args.file.now c.loop-i.nodes c.args.n c.loop-i.i _ c.requires.n_value refl (omega arith) c.loop-i.invariant.2
    (rw c.in_default.is at c.node_at.ensures)

pub loop-i-preserved : goal.loop-i-preserved
loop-i-preserved c =
    let m = rw c.in-Some.is at c.node_at.ensures in (
      simp length-set c.loop-i.invariant.0,
      tied_more c.args.file.now c.loop-i.nodes c.args.n c.loop-i.i _ c.requires.n_value refl c.in-Some.node (omega arith) c.loop-i.invariant.1 m,
      table_more c.args.file.now c.loop-i.nodes c.args.n c.loop-i.i _ c.requires.n_value refl c.in-Some.node c.loop-i.invariant.2 m,
    )

pub returns : goal.returns
returns c = all (λ j l. c.loop-i.invariant.1 j (omega arith)) (λ j l. c.loop-i.invariant.2 j (omega arith))
