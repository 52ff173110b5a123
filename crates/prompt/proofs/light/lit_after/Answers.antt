-- `prompt::light::lit_after` meets its contract: each node adds its own code.
use mathlib.Core.Path.{◌≡◌, subst}
use Prim.Native.Nat.{ℕ}
use native.Mathlib.Omega.{arith}
use Rattle.prompt.specs.Near.{CodesNear}
use Rattle.prompt.proofs.Lighting.{codes_more, lit_after}
use Rattle.prompt.proofs.light.lit_after.Goals as goal

pub loop-q-preserved : goal.loop-q-preserved
loop-q-preserved c = codes_more _ c.loop-q.invariant c.code_near.ensures c.bitor-lit.ensures

pub returns : goal.returns
returns c =
    let all : c.loop-q.q ≡ c.args.plan.now.procedure.now.count = omega arith in
    lit_after _ c.requires.p_lt_n c.requires.p_value (subst (λ (i : ℕ). CodesNear c.args.plan.now c.args.p i c.loop-q.lit) all c.loop-q.invariant)
