-- `prompt::light::code_near` meets its contract, by whether the node is an event and whether it is near.
use mathlib.Core.Path.{ap}
use Rattle.procedure.specs.Entry.{record_of}
use Rattle.prompt.proofs.Lighting.{code_near, code_not_near, code_of_none}
use Rattle.prompt.proofs.light.code_near.Goals as goal

pub returns-in_default : goal.returns-in_default
returns-in_default c = code_of_none _ c.in_default.not-Event c.none.ensures

pub returns-then-follows : goal.returns-then-follows
returns-then-follows c =
    code_near _ _ _ c.requires.q_lt_n (ap record_of c.in-Event.is) c.near-follows.ensures c.if-follows.true c.from.ensures c.one.ensures

pub returns-else-follows : goal.returns-else-follows
returns-else-follows c = code_not_near _ c.near-follows.ensures c.if-follows.false c.none-else-follows.ensures
