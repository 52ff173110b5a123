-- `procedure::order::start_of` meets its contract, by what the node says of its children and where their parts begin.
-- Assumes nothing.
use mathlib.Core.Path.{ap}
use mathlib.Core.Logic.{⊎_elim, ⊎_map}
use Prim.Native.Nat.{◌-◌}
use native.Mathlib.Omega.{arith}
use lib.ListN.{get_or}
use Rattle.procedure.specs.Entry.{held, record_of}
use Rattle.procedure.proofs.Orders.{empty_spans, event_spans, pair_says, pair_spans, repeat_spans, spans_below, start_told}
use Rattle.procedure.proofs.order.start_of.Goals as goal
use Rattle.procedure.proofs.order.start_of.Goals.{then-before-lt1-via-then-before-lt1, then-before-lt1-via-else-before-lt1+then-left-before}

pub returns-in-Empty : goal.returns-in-Empty
returns-in-Empty c =
    ⊎_elim (λ e. empty_spans (held c.args.nodes.now) c.args.i (ap record_of e)) (λ p. event_spans (held c.args.nodes.now) c.args.i p.0 (ap record_of p.1))
    c.in-Empty.is

pub returns-else-from-i : goal.returns-else-from-i
returns-else-from-i c =
    repeat_spans (held c.args.nodes.now) _ c.args.i _ _ _ (ap record_of c.in-Repeat.is) (omega arith) (omega arith)
    (rw c.from-in-Repeat.ensures (start_told _ _ c.args.i (c.args.i - 1) c.requires.tells_starts (omega arith)))

pub returns-then-before-lt1 : goal.returns-then-before-lt1
returns-then-before-lt1 c = λ o.
    let p = pair_says (held c.args.nodes.now) c.args.i _ _ (⊎_map (ap record_of) (ap record_of) c.in-Choice.is) o in
    let q = p.2 _ (start_told _ _ c.args.i (c.args.i - 1) c.requires.tells_starts (omega arith)) in
    elim c.then-before-lt1.branch [
      | then-before-lt1-via-then-before-lt1 w ↦ omega (arith, q.0)
      | then-before-lt1-via-else-before-lt1+then-left-before w ↦ omega (arith, q.1)
    ]

pub bounds-starts-from : goal.bounds-starts-from
bounds-starts-from c = omega (arith, spans_below _ _ _ (start_told _ _ c.args.i (c.args.i - 1) c.requires.tells_starts (omega arith)))

pub returns-else-left-before : goal.returns-else-left-before
returns-else-left-before c =
    let before = start_told _ _ c.args.i (c.args.i - 1) c.requires.tells_starts (omega arith) in
    let l = spans_below _ _ _ before in
    pair_spans (held c.args.nodes.now) _ (get_or c.args.starts.now (c.args.i - 1) 0) c.args.i _ _ (⊎_map (ap record_of) (ap record_of) c.in-Choice.is)
    (omega arith) (omega arith) before (omega arith) (omega arith)
    (rw (c.from-in-Choice-2.ensures, c.from-in-Choice.ensures) (start_told _ _ c.args.i _ c.requires.tells_starts (omega arith)))
