-- `procedure::node::node_of` meets its contract, by the line of each kind. Assumes nothing.
use mathlib.Core.Path.{refl}
use native.Mathlib.Omega.{arith}
use Rattle.meaning.specs.Node.{choice_line, empty_line, event_line, repeat_line, sequence_line}
use Rattle.procedure.proofs.node.node_of.Goals as goal

pub returns-in-0-eq0-eq0-eq0-eq0 : goal.returns-in-0-eq0-eq0-eq0-eq0
returns-in-0-eq0-eq0-eq0-eq0 c = let w = c.in-0-eq0-eq0-eq0-eq0 in rw (w.is-0, w.is-1, w.is-2, w.is-3, w.is-4) (refl, empty_line)

pub returns-in-1-default-eq0-eq0-eq0 : goal.returns-in-1-default-eq0-eq0-eq0
returns-in-1-default-eq0-eq0-eq0 c =
    let w = c.in-1-default-eq0-eq0-eq0 in rw (w.is-0, w.is-2, w.is-3, w.is-4) (refl, event_line c.args.code (omega arith))

pub returns-in-2-eq0-default-default-eq0 : goal.returns-in-2-eq0-default-default-eq0
returns-in-2-eq0-default-default-eq0 c =
    let w = c.in-2-eq0-default-default-eq0 in rw (w.is-0, w.is-1, w.is-4) (refl, choice_line c.args.first c.args.second)

pub returns-in-3-eq0-default-default-eq0 : goal.returns-in-3-eq0-default-default-eq0
returns-in-3-eq0-default-default-eq0 c =
    let w = c.in-3-eq0-default-default-eq0 in rw (w.is-0, w.is-1, w.is-4) (refl, sequence_line c.args.first c.args.second)

pub returns-in-4-eq0-default-default-default : goal.returns-in-4-eq0-default-default-default
returns-in-4-eq0-default-default-default c =
    let w = c.in-4-eq0-default-default-default in
    let b = c.if-bounds_written.ensures in
    rw (w.is-0, w.is-1) (refl, repeat_line c.args.first c.args.second c.args.third b.0 b.1 b.2)
