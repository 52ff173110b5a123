-- `prompt::near::near` meets its contract: the way up turns, ends, or goes on above x, and it leads upward.
use mathlib.Core.Path.{sym, subst, ◌∙◌}
use Prim.Native.Nat.{ℕ}
use native.Mathlib.Omega.{arith}
use Rattle.prompt.proofs.Nearby.{Nears, over, here, shut, on, nears_near}
use Rattle.prompt.proofs.near.near.Goals as goal

pub loop-x-init : goal.loop-x-init
loop-x-init c =
    let up = c.args.plan.now.rises c.args.p c.requires.p_lt_n in
    record {
      some = omega (arith, c.above-x.ensures.value);
      on = λ r. subst (λ (y : ℕ). Nears c.args.plan.now c.args.q y r) c.above-x.ensures.value;
    }

pub returns-then-turns_at : goal.returns-then-turns_at
returns-then-turns_at c =
    nears_near c.args.p c.requires.q_value (c.loop-x.invariant.on _ (here c.loop-x-test.true (sym c.turns_at.ensures ∙ c.if-turns_at.true)))

pub returns-then-not-passes_at : goal.returns-then-not-passes_at
returns-then-not-passes_at c =
    nears_near c.args.p c.requires.q_value
    (c.loop-x.invariant.on _
    (shut c.loop-x-test.true (sym c.turns_at.ensures ∙ c.if-turns_at.false) (sym c.passes_at.ensures ∙ c.if-not-passes_at.true)))

pub loop-x-smaller : goal.loop-x-smaller
loop-x-smaller c =
    let up = c.args.plan.now.rises c.loop-x.x c.loop-x-test.true in omega (arith, c.above-x-in-loop-x.ensures)

pub loop-x-preserved : goal.loop-x-preserved
loop-x-preserved c =
    let up = c.args.plan.now.rises c.loop-x.x c.loop-x-test.true in
    record {
      some = omega (arith, c.above-x-in-loop-x.ensures);
      on = λ r w.
          c.loop-x.invariant.on r
          (on c.loop-x-test.true (sym c.turns_at.ensures ∙ c.if-turns_at.false) (sym c.passes_at.ensures ∙ c.if-not-passes_at.false)
          (subst (λ (y : ℕ). Nears c.args.plan.now c.args.q y r) c.above-x-in-loop-x.ensures.value w));
    }

pub returns : goal.returns
returns c = nears_near c.args.p c.requires.q_value (c.loop-x.invariant.on _ (over c.loop-x-test.false))
