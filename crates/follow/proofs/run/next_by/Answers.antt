use mathlib.Core.Path.{subst, ap, ◌∙◌, sym}
use native.Mathlib.Omega.{arith}
use Rattle.std.proofs.Common.{get_or}
use Rattle.procedure.specs.declared.node.Node.TheVariants as entry
use Rattle.procedure.specs.Entry.{kind_of, record_of}
use Rattle.states.specs.Standing.{StandsAt}
use Rattle.follow.specs.Run.{told_code}
use Rattle.follow.proofs.Running.{passed_other, passed_stuck, nexted_goes, nexted_past, nexted_stays, told_event}
use Rattle.follow.proofs.run.next_by.Goals as goal
use Rattle.follow.proofs.run.next_by.Goals.{else-codes-q-via-then-codes-q+else-go_to, else-codes-q-via-else-codes-q}

pub returns-then-code-gt-MOST_CODE-clause-nexted : goal.returns-then-code-gt-MOST_CODE-clause-nexted
returns-then-code-gt-MOST_CODE-clause-nexted c = λ e k pl s. nexted_past pl.listing c.if-code-gt-MOST_CODE.true

pub returns-then-go_to-clause-nexted : goal.returns-then-go_to-clause-nexted
returns-then-go_to-clause-nexted c =
    let q = c.loop-q.q in
    let here = told_event (get_or c.args.plan.now.procedure.now.nodes q entry.Empty) c.args.code
    (sym (c.requires.tells_codes q c.loop-q-test.true) ∙ c.if-codes-q.true) (omega (arith, c.if-code-gt-MOST_CODE.false)) in
    λ e k pl s.
    nexted_goes pl.listing c.loop-q-test.true here c.if-go_to.true
    (c.go_to.ensures e k pl (ap (λ x. kind_of (record_of x)) here) (subst (StandsAt e k) (c.loop-q.invariant.1 e k pl s).same s))

pub loop-q-preserved : goal.loop-q-preserved
loop-q-preserved c = (
  elim c.else-codes-q.branch [
    | else-codes-q-via-then-codes-q+else-go_to w ↦ rw w.standing-is c.loop-q.invariant.0
    | else-codes-q-via-else-codes-q w ↦ rw w.standing-is c.loop-q.invariant.0
  ],
  λ e k pl s.
      let passed = c.loop-q.invariant.1 e k pl s in
      let told = c.requires.tells_codes c.loop-q.q c.loop-q-test.true in
      elim c.else-codes-q.branch [
        | else-codes-q-via-then-codes-q+else-go_to w ↦
            let here = told_event (get_or c.args.plan.now.procedure.now.nodes c.loop-q.q entry.Empty) c.args.code (sym told ∙ w.if-codes-q.true)
            (omega (arith, c.if-code-gt-MOST_CODE.false)) in
            rw w.standing-is
            (passed_stuck c.loop-q.standing.reached passed w.if-go_to.false
            (w.go_to.ensures e k pl (ap (λ x. kind_of (record_of x)) here) (subst (StandsAt e k) passed.same s)))
        | else-codes-q-via-else-codes-q w ↦
            rw w.standing-is (passed_other passed (λ here. w.if-codes-q.false (told ∙ ap told_code here)))
      ],
)

pub returns-clause-nexted : goal.returns-clause-nexted
returns-clause-nexted c = λ e k pl s. nexted_stays pl.listing c.loop-q-test.false (c.loop-q.invariant.1 e k pl s)
