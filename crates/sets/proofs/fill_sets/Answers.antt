use Rattle.std.proofs.Common.{rules}
use mathlib.Core.Path.{◌≡◌, sym, ap, ◌∙◌}
use native.Mathlib.Omega.{arith}
use Rattle.std.specs.Option.{option_or}
use Rattle.procedure.proofs.Empties.{nulls_fewer}
use Rattle.sets.proofs.Passing.{or_none, passed_all, passed_more, passed_none}
use Rattle.sets.proofs.fill_sets.Goals as goal
use Rattle.sets.proofs.fill_sets.Goals.{in-Some, in_default}

pub loop-i-init : goal.loop-i-init
loop-i-init c = search (rules, passed_none)

pub node-own-requires-clause-tells_nulls : goal.node-own-requires-clause-tells_nulls
node-own-requires-clause-tells_nulls c = search (rules, nulls_fewer)

pub conflict-requires-clause-tells_nulls : goal.conflict-requires-clause-tells_nulls
conflict-requires-clause-tells_nulls c = search (rules, nulls_fewer)

pub loop-i-preserved : goal.loop-i-preserved
loop-i-preserved c =
    let kept : c.match-conflict.found ≡ option_or c.loop-i.found c.conflict.result =
    elim c.match-conflict.branch [
      | in-Some w ↦ w.found-is ∙ w.or-found.ensures ∙ ap (option_or c.loop-i.found) (sym w.in-Some.is)
      | in_default w ↦ w.found-is ∙ or_none c.loop-i.found ∙ ap (option_or c.loop-i.found) (sym w.in_default.is)
    ] in
    passed_more c.node-own.result c.conflict.result c.loop-i.invariant c.loop-i-test.true (omega arith) (omega arith) c.node-own.ensures c.conflict.ensures kept

pub returns-clause-lowest : goal.returns-clause-lowest
returns-clause-lowest c = passed_all c.loop-i.invariant (omega arith)
