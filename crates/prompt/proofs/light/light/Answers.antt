-- `prompt::light::light` meets its contract, by what is read of the state.
use native.Mathlib.Omega.{arith}
use Rattle.meaning.specs.Promises.{Prompts}
use Rattle.prompt.proofs.Prompting.{codes_kept, prompts_lit, read_event}
use Rattle.prompt.proofs.light.light.Goals as goal

pub returns-in_default : goal.returns-in_default
returns-in_default c = λ f e a is. Prompts.unreached e a (c.in_default.ensures e is)

pub lit-requires-clause-coded : goal.lit-requires-clause-coded
lit-requires-clause-coded c = rw c.fill-plan.ensures.same (codes_kept c.requires.tables.1)

pub lit-requires-clause-event : goal.lit-requires-clause-event
lit-requires-clause-event c =
    rw c.fill-plan.ensures.same (read_event c.requires.tables.1 c.args.bytes.now c.in-Some.standing (c.in-Some.ensures c.requires.tables.0 c.requires.tables.1))

pub returns : goal.returns
returns c = λ f e a is.
    prompts_lit f c.args.bytes.now e c.in-Some.standing c.lit.result c.from.result (omega arith) (omega arith) a (rw c.fill-plan.ensures.same is)
    (c.fill-plan.ensures.plans e is)
    (c.in-Some.ensures e is) c.lit.ensures c.from.ensures.0 c.from.ensures.1
