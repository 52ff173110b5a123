use mathlib.Core.Path.{◌≡◌}
use native.Mathlib.Omega.{arith}
use lib.ListN.{length-set}
use Rattle.procedure.specs.Entry.{held}
use Rattle.procedure.specs.Order.{broken}
use Rattle.procedure.proofs.Orders.{late_start, starts_more, starts_none, starts_ordered, whole_start}
use Rattle.procedure.proofs.order.find_starts.Goals as goal

pub loop-i-init : goal.loop-i-init
loop-i-init c = (c.told-starts, starts_none _ _)

pub returns-in_default : goal.returns-in_default
returns-in_default c =
    broken c.loop-i.i (omega arith) (starts_ordered (held c.args.nodes.now) c.loop-i.starts c.loop-i.i c.loop-i.invariant.1)
    (rw c.in_default.is at c.start_of.ensures)

pub loop-i-preserved : goal.loop-i-preserved
loop-i-preserved c = (
  simp length-set c.loop-i.invariant.0,
  starts_more (held c.args.nodes.now) c.loop-i.starts c.loop-i.i _ (omega arith) c.loop-i.invariant.1 (rw c.in-Some.is at c.start_of.ensures),
)

pub returns-then-starts-n-gt0 : goal.returns-then-starts-n-gt0
returns-then-starts-n-gt0 c =
    let end : c.loop-i.i ≡ c.args.n = omega arith in
    late_start (held c.args.nodes.now) c.loop-i.starts c.args.n (omega arith) (rw end at c.loop-i.invariant.1) (omega arith)

pub returns : goal.returns
returns c =
    let end : c.loop-i.i ≡ c.args.n = omega arith in
    whole_start (held c.args.nodes.now) c.loop-i.starts c.args.n (omega arith) (rw end at c.loop-i.invariant.1) (omega arith)
