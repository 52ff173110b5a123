-- From an admitted file and the bytes of a state to the answer of Follow. Assumes nothing.
use mathlib.Core.Path.{◌≡◌, sym, subst, ◌∙◌}
use mathlib.Core.List.{List, ◌∷◌}
use Prim.Native.Nat.{ℕ, ◌≤◌}
use lib.ListN.{length}
use Rattle.std.specs.Prelude.{Option, Some, None, Ok, Err}
use Rattle.std.specs.Option.{ok_or}
use Rattle.meaning.specs.declared.Refusal.{Refusal}
use Rattle.meaning.specs.declared.Refusal.TheVariants.{Unreached}
use Rattle.meaning.specs.declared.Verdict.{Verdict}
use Rattle.meaning.specs.Answers.{FollowAnswer, went_on}
use Rattle.meaning.specs.Expr.{Expr}
use Rattle.meaning.specs.Bytes.{in_twos}
use Rattle.meaning.specs.File.{Admitted}
use Rattle.meaning.specs.Promises.{Follows}
use Rattle.meaning.specs.Theory.Counts.{repeats}
use Rattle.meaning.specs.Theory.Spots.{Spot}
use Rattle.meaning.specs.Theory.Runs.{VerdictAt}
use Rattle.meaning.proofs.Promises.Follows.{going_follows}
use Rattle.procedure.specs.declared.Procedure.{Procedure}
use Rattle.procedure.specs.Opening.{IsOf}
use Rattle.codes.specs.Codes.{Codes}
use Rattle.judge.specs.Admission.{Entered}
use Rattle.states.specs.declared.standing.Standing.{Standing}
use Rattle.states.specs.StateBytes.{place_of}
use Rattle.states.specs.Standing.{ReadOf, StandsAt}
use Rattle.follow.specs.Run.{RanTo}
use Rattle.follow.specs.Batch.{Went, unreached, went}
use Rattle.states.proofs.ReachedBytes.{stood_bytes}
use Rattle.states.proofs.Readiness.{read_spot, stood_long}

-- ---- the answer

follows_went : (f state events : List ℕ) (e : Expr) (after : List ℕ) (r : FollowAnswer) → Admitted f e → Went e state events r after → Follows f state events r after
follows_went f state events e after r a (unreached none) = Follows.unreached e a none
follows_went f state events e after r a (went k j t v s b g at) = going_follows f state events e k j t v a s b g at

-- of an admitted file, and its procedure
pub follows_entered : {f : List ℕ} {p : Procedure} {firsts : List Codes} {state events after : List ℕ} {x : FollowAnswer}
    → Entered f p firsts → ((e : Expr) → IsOf p e → Went e state events x after)
    → Follows f state events x after
follows_entered o went_on = follows_went _ _ _ o.filled.expr _ _ o.admitted (went_on o.filled.expr o.filled.tables)

-- ---- the batch

pub went_nowhere : (e : Expr) (bytes events : List ℕ) (a : Option Standing) (r : Refusal) → ReadOf e bytes a → Err r ≡ ok_or a Unreached
    → Went e bytes events (Err r) bytes
went_nowhere e bytes events None r told is = let same : Unreached ≡ r = cc in subst (λ (x : Refusal). Went e bytes events (Err x) bytes) same (unreached told)
went_nowhere e bytes events (Some s) r told is = absurd (cc)

pub went_far : (e : Expr) (bytes events after : List ℕ) (a : Option Standing) (c d : Standing) (taken : ℕ) (v : Verdict) → repeats e ≤ 32
    → ReadOf e bytes a → a ≡ Some c
    → ((k : Spot e) → StandsAt e k c → RanTo e k events taken d)
    → ((k : Spot e) → StandsAt e k d → VerdictAt e k taken (length events) v)
    → after ≡ in_twos (place_of d.reached ∷ d.counts)
    → Went e bytes events (Ok (went_on taken v)) after
went_far e bytes events after a c d taken v few told is run_on stands_so written =
    let came = read_spot e bytes a c few told is in
    let ran = run_on came.0 came.2 in
    let j = ran.spot in
    let left = stood_bytes e j (place_of d.reached) d.counts few (stood_long e j (place_of d.reached) d.counts ran.stood) ran.stood in
    subst (Went e bytes events (Ok (went_on taken v))) (sym (written ∙ left))
    (went came.0 j taken v came.1 came.3 ran.going (stands_so j ran.stood))
