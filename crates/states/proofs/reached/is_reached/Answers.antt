-- `states::reached::is_reached` meets its contract, by the tests that pass exactly where a run can stand. Assumes nothing.
use mathlib.Core.Path.{sym, subst, ◌∙◌}
use Rattle.std.proofs.Common.{rules}
use Rattle.procedure.specs.Tests.{Decides}
use Rattle.procedure.proofs.Deciding.{fails, holds}
use Rattle.states.proofs.Stands.{not_past, not_event, other_kind, not_right, right_decided}
use Rattle.states.proofs.reached.is_reached.Goals as goal
use Rattle.states.proofs.reached.is_reached.Goals.{then-matches, else-matches, in-Event, in_default-matches}

pub returns-then-procedure-p : goal.returns-then-procedure-p
returns-then-procedure-p c = λ e w. rw c.in-Some.is (not_past w c.args.standing.now.counts c.in-Some.p c.if-procedure-p.true)

pub returns-then-all_fit : goal.returns-then-all_fit
returns-then-all_fit c =
    λ e w.
    rw c.in-Some.is
    (elim c.if-matches.branch [
      | then-matches v ↦
          right_decided w c.args.standing.now.counts c.in-Some.p _ (search rules) c.if-procedure-p.false (search rules)
          (holds _ _ v.all_fit.ensures (sym v.value-is ∙ c.if-all_fit.true)) c.clear_from-then-all_fit.ensures
      | else-matches v ↦ absurd (search rules)
    ])

pub returns-else-all_fit : goal.returns-else-all_fit
returns-else-all_fit c =
    λ e w.
    rw c.in-Some.is
    (subst (Decides _) (sym c.if-all_fit.false)
    (elim c.if-matches.branch [
      | then-matches v ↦ not_right w c.args.standing.now.counts c.in-Some.p (fails _ _ v.all_fit.ensures (sym v.value-is ∙ c.if-all_fit.false))
      | else-matches v ↦
          not_event w c.args.standing.now.counts c.in-Some.p
          (elim c.match-matches.branch [ in-Event u ↦ absurd (search rules) | in_default-matches u ↦ other_kind _ u.in_default-matches.not-Event ])
    ]))
