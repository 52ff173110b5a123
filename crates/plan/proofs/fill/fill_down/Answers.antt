-- `plan::fill::fill_down` meets its contract: the visit of one node is one step of the pass.
use mathlib.Core.Path.{◌≡◌, refl, ap, ◌∙◌}
use Prim.Native.Nat.{suc, ◌-◌, ◌<◌}
use native.Mathlib.Omega.{arith}
use lib.ListN.{length}
use Rattle.procedure.specs.Entry.{held}
use Rattle.plan.specs.Link.{Links}
use Rattle.plan.specs.Filling.{link_with}
use Rattle.plan.proofs.Links.{count_down, ranked_at, step_down}
use Rattle.plan.proofs.fill.fill_down.Goals as goal

pub loop-i-preserved : goal.loop-i-preserved
loop-i-preserved c =
    let before : c.loop-i.i ≡ suc (c.loop-i.i - 1) = omega arith in
    let counted = count_down _ _ _ before c.loop-i.rank _ c.loop-i.invariant.counted c.is_repeat-rank.ensures.value in
    let there : c.loop-i.i - 1 < length c.loop-i.links = omega arith in
    let p = c.args.procedure.now in
    record {
      counted = counted;
      few = omega arith;
      rest = step_down _ _ _ before p.nulls c.loop-i.links _ _ counted
          (c.link_at.ensures
          ∙ ap (λ (x : Links). link_with (held p.nodes (c.loop-i.i - 1)) p.nulls x (c.loop-i.i - 1))
          (ranked_at _ _ _ c.index-links-i.result there (omega arith) refl refl refl))
          ∙ c.loop-i.invariant.rest;
    }
