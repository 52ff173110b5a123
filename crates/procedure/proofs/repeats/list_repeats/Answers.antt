use mathlib.Core.Path.{◌≡◌, ap}
use Prim.Native.Nat.{◌+◌, ◌≤◌}
use native.Mathlib.Omega.{arith}
use lib.ListN.{get_or, length-set}
use Rattle.procedure.specs.declared.node.Node.TheVariants.{Empty}
use Rattle.procedure.specs.Entry.{held, kind_of, record_of}
use Rattle.procedure.specs.Listing.{TellsRepeats}
use Rattle.procedure.specs.Repeats.{listed}
use Rattle.procedure.proofs.Counting.{no_repeat, repeats_more, repeats_none, repeats_over, repeats_same}
use Rattle.procedure.proofs.Empties.{nulls_more, nulls_none}
use Rattle.procedure.proofs.repeats.list_repeats.Goals as goal
use Rattle.procedure.proofs.repeats.list_repeats.Goals.{in-Repeat+else-count-ge-MOST_REPEATS, in_default}

pub loop-i-init : goal.loop-i-init
loop-i-init c = (c.told-nulls, nulls_none _ _, c.told-repeats, omega arith, repeats_none _ _)

pub returns-then-count-ge-MOST_REPEATS : goal.returns-then-count-ge-MOST_REPEATS
returns-then-count-ge-MOST_REPEATS c =
    repeats_over (held c.args.nodes.now) _ c.loop-i.repeats c.args.n c.loop-i.i c.loop-i.count (omega arith) (ap kind_of (ap record_of c.in-Repeat.is))
    c.loop-i.invariant.4 (omega arith)

pub loop-i-preserved : goal.loop-i-preserved
loop-i-preserved c =
    let g = held c.args.nodes.now in
    let i = c.loop-i.i in
    let noted : (c.match-nodes-i.count ≤ 32) × TellsRepeats g c.match-nodes-i.repeats (i + 1) c.match-nodes-i.count =
    elim c.match-nodes-i.branch [
      | in-Repeat+else-count-ge-MOST_REPEATS w ↦
          rw (w.repeats-is, w.count-is) (
            omega arith,
            repeats_more g c.loop-i.repeats i c.loop-i.count (omega arith) (ap kind_of (ap record_of w.in-Repeat.is)) c.loop-i.invariant.4,
          )
      | in_default w ↦
          rw (w.repeats-is, w.count-is) (
            c.loop-i.invariant.3,
            repeats_same g c.loop-i.repeats i c.loop-i.count (no_repeat (get_or c.args.nodes.now i Empty) w.in_default.not-Repeat) c.loop-i.invariant.4,
          )
    ] in (
      simp length-set c.loop-i.invariant.0,
      nulls_more g c.loop-i.nulls i c.null_at.result (omega arith) c.loop-i.invariant.1 c.null_at.ensures,
      c.match-nodes-i.array_long,
      noted.0,
      noted.1,
    )

pub returns : goal.returns
returns c =
    let end : c.loop-i.i ≡ c.args.n = omega arith in
    listed c.loop-i.count (rw end at c.loop-i.invariant.1) (rw end at c.loop-i.invariant.4) c.loop-i.invariant.3
