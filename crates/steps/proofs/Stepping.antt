-- The way of the whole: where it leads, and the counters there. Assumes nothing.
use mathlib.Core.Path.{◌≡◌, refl, sym, ap, subst, ◌∙◌}
use mathlib.Core.Logic.{◌⊎◌, inl, inr}
use mathlib.Core.Bool.{Bool, true, false, cond}
use mathlib.Core.List.{List}
use Prim.Native.Nat.{ℕ, ◌-◌, ◌≤◌, ◌<◌}
use native.Mathlib.Omega.{arith}
use lib.Dec.{eqb}
use lib.ListN.{length, set, length-set}
use Rattle.plan.specs.Link.{Links}
use Rattle.meaning.specs.Expr.{Expr, root}
use Rattle.meaning.specs.Theory.Places.{Place, node_of}
use Rattle.meaning.specs.Theory.Ways.{Way, turns, ends, stuck, way}
use Rattle.meaning.proofs.Expressions.Parts.{root-size}
use Rattle.procedure.specs.Entry.{Nodes, held, kind_of}
use Rattle.steps.specs.declared.climb.Turn.{Turn}
use Rattle.steps.specs.declared.climb.Turn.TheVariants.{At, Ends, Stuck}
use Rattle.procedure.proofs.Orders.{start_of_part}
use Rattle.plan.specs.Plan.{above_at, begins_of, Plans, rank_at, Rises, top}
use Rattle.meaning.specs.Theory.Counts.{Held, Marked, repeats, Unmarked}
use Rattle.steps.specs.Counts.{MarksUp, done, next, TurnedTo}
use Rattle.steps.specs.Climb.{Climbs, past, turns, stops, on}
use Rattle.steps.specs.Step.{Stepped, steps, stays, Started, starts, Ended, ended, open_yet}
use Rattle.plan.proofs.Beginnings.{BeginsWith, at, begins_by_test, does, does_not, past, Target}
use Rattle.steps.proofs.Counting.{Beside, entered}
use Rattle.steps.proofs.Climbing.{Outcome, turned, ended, halted, climbs, marks_done}

-- ---- the number of counters

long_if : (b : Bool) (x y : List ℕ) → length x ≡ length y → length (cond b x y) ≡ length y
long_if true x y e = e
long_if false x y e = refl

marks_long : {nodes : Nodes} {plan : Links} {x y : ℕ} {c d : List ℕ} → MarksUp nodes plan x y c d → length d ≡ length c
marks_long (done h) = refl
marks_long {nodes} {plan} {x} {y} {c} {d} (next h w) =
    marks_long w ∙ long_if (eqb (kind_of (held nodes y)) 4) (set c (rank_at plan y) 1) c (length-set c (rank_at plan y) 1)

turned_long : (nodes : Nodes) (begun : List ℕ) (nulls : List Bool) (plan : Links) (x q : ℕ) (c d : List ℕ) → TurnedTo nodes begun nulls plan x q c d → length d ≡ length c
turned_long nodes begun nulls plan x q c d w =
    marks_long w.2 ∙ long_if (eqb (kind_of (held nodes x)) 4) _ w.0 (length-set w.0 (rank_at plan x) _) ∙ w.1.long

-- ---- where the way turns

pub climbs_at : {nodes : Nodes} {begun : List ℕ} {nulls : List Bool} {plan : Links} {counts : List ℕ} {n q y x : ℕ} {r : Turn} → Rises nodes begun plan n → 1 ≤ y → Climbs nodes begun nulls plan counts n q y r → r ≡ At x
    → (1 ≤ x) × (x < n)
climbs_at up h (past l) e = absurd (let z : ◌≡◌ {A = ℕ} 0 1 = cc in omega arith)
climbs_at {x = x} up h (turns {x = y} l f) e = let same : y ≡ x = cc in (omega arith, omega arith)
climbs_at up h (stops l f) e = absurd (let z : ◌≡◌ {A = ℕ} 0 1 = cc in omega arith)
climbs_at up h (on {x = y} l f w) e = climbs_at up (omega (arith, (up y l).up)) w e

-- a turn is at a node of the plan, and not at the first
pub turns_within : {nodes : Nodes} {begun : List ℕ} {nulls : List Bool} {plan : Links} {counts : List ℕ} {n q v x : ℕ} {r : Turn} → Rises nodes begun plan n → v < n
    → Climbs nodes begun nulls plan counts n q (above_at plan v) r → r ≡ At x
    → (1 ≤ x) × (x < n)
turns_within {v = v} up h w f = climbs_at up (omega (arith, (up v h).up)) w f

-- ---- the way of the whole

data Finish (nodes : Nodes) (begun : List ℕ) (nulls : List Bool) (plan : Links) (counts : List ℕ) (q : ℕ) (e : Expr) (p : Place e) (r : Turn) : Type 0 where
  goes : (x : ℕ) (t : Place e) → r ≡ At x → way 0 e p q ≡ turns t → node_of 0 e t ≡ q
      → ((z : List ℕ) → TurnedTo nodes begun nulls plan x q counts z → Marked z e t)
      → Finish nodes begun nulls plan counts q e p r
  finishes : r ≡ Ends → way 0 e p q ≡ ends → Finish nodes begun nulls plan counts q e p r
  halts : r ≡ Stuck → way 0 e p q ≡ stuck → Finish nodes begun nulls plan counts q e p r

top_ends : {nodes : Nodes} {begun : List ℕ} {nulls : List Bool} {plan : Links} {counts : List ℕ} {n q x : ℕ} {r : Turn} → n ≤ x → Climbs nodes begun nulls plan counts n q x r → r ≡ Ends
top_ends h (past l) = refl
top_ends h (turns l f) = absurd (omega arith)
top_ends h (stops l f) = absurd (omega arith)
top_ends h (on l f w) = absurd (omega arith)

marked_after : (counts z : List ℕ) (e : Expr) (p t : Place e) → Marked counts e p → length z ≡ length counts
    → Held z 0 e t × Beside counts z 0 (repeats e) → Marked z e t
marked_after counts z e p t m l w = record {
  holds = w.0;
  past = λ j h. w.1 j (inr (omega arith)) ∙ m.past j h;
  long = l ∙ m.long;
}

finish : (nodes : Nodes) (begun : List ℕ) (nulls : List Bool) (plan : Links) (counts : List ℕ) (n q : ℕ) (e : Expr) (p : Place e) (v : ℕ) (r : Turn) → Plans nodes begun nulls plan n e → Target (held nodes) n q
    → node_of 0 e p ≡ v → Marked counts e p → Climbs nodes begun nulls plan counts n q (above_at plan v) r
    → Finish nodes begun nulls plan counts q e p r
finish nodes begun nulls plan counts n q e p v r pl target here m w =
    let z = root-size 0 e in
    sort
    (climbs nodes begun nulls plan counts n q pl.ranks pl.few_repeats pl.begun pl.empties target m.long 0 0 e top (root 0 e) p r pl.listing.stands pl.planned (omega arith)
    (omega (arith, pl.listing.sized)) (omega (arith, pl.listing.sized, pl.listing.few)) refl m.holds
    (subst (λ (y : ℕ). Climbs nodes begun nulls plan counts n q (above_at plan y) r) (sym here) w))
  where
    sort : Outcome nodes begun nulls plan counts n q 0 0 e p top r → Finish nodes begun nulls plan counts q e p r
    sort (turned x t f g i k) = goes x t f g i (λ z u. marked_after counts z e p t m (turned_long nodes begun nulls plan x q counts z u) (k z u))
    sort (ended f g) = finishes (top_ends pl.listing.few g) f
    sort (halted f g) = halts g f

not_turns : {A : Type 0} {w : Way A} {t : A} → w ≡ ends → w ≡ turns t → ⊥
not_turns e f = let z : ◌≡◌ {A = ℕ} 0 1 = cc in omega arith

not_turns_stuck : {A : Type 0} {w : Way A} {t : A} → w ≡ stuck → w ≡ turns t → ⊥
not_turns_stuck e f = let z : ◌≡◌ {A = ℕ} 0 1 = cc in omega arith

not_ends : {A : Type 0} {w : Way A} → w ≡ stuck → w ≡ ends → ⊥
not_ends e f = let z : ◌≡◌ {A = ℕ} 0 1 = cc in omega arith

pub at_not_ends : {r : Turn} {x : ℕ} → r ≡ At x → r ≡ Ends → ⊥
at_not_ends e f = let z : ◌≡◌ {A = ℕ} 0 1 = cc in omega arith

pub stuck_not_ends : {r : Turn} → r ≡ Stuck → r ≡ Ends → ⊥
stuck_not_ends e f = let z : ◌≡◌ {A = ℕ} 0 1 = cc in omega arith

-- ---- the answers of a step

module _
    (nodes : Nodes) (begun : List ℕ)
    (nulls : List Bool)
    (plan : Links) (counts : List ℕ)
    (n q v : ℕ)
    (r : Turn)
    (e : Expr)
    (p : Place e)
    (pl : Plans nodes begun nulls plan n e)
    (here : node_of 0 e p ≡ v)
    (m : Marked counts e p)
    (w : Climbs nodes begun nulls plan counts n q (above_at plan v) r) where
  pub step_turns : (x : ℕ) (d : List ℕ) → kind_of (held nodes q) ≡ 1 → r ≡ At x → TurnedTo nodes begun nulls plan x q counts d → Stepped e p q true counts d
  step_turns x d k f u = by (finish nodes begun nulls plan counts n q e p v r pl (at k) here m w)
    where
      by : Finish nodes begun nulls plan counts q e p r → Stepped e p q true counts d
      by (goes y t g h i mk) =
          let same : x ≡ y = cc in steps t h i (mk d (subst (λ (v : ℕ). TurnedTo nodes begun nulls plan v q counts d) same u))
      by (finishes g h) = absurd (let z : ◌≡◌ {A = ℕ} 0 1 = cc in omega arith)
      by (halts g h) = absurd (let z : ◌≡◌ {A = ℕ} 0 1 = cc in omega arith)

  pub step_stays : kind_of (held nodes q) ≡ 1 → (r ≡ Ends) ⊎ (r ≡ Stuck) → Stepped e p q false counts counts
  step_stays k f = by f (finish nodes begun nulls plan counts n q e p v r pl (at k) here m w)
    where
      by : (r ≡ Ends) ⊎ (r ≡ Stuck) → Finish nodes begun nulls plan counts q e p r → Stepped e p q false counts counts
      by (inl f) (goes y t g h i mk) = absurd (let z : ◌≡◌ {A = ℕ} 0 1 = cc in omega arith)
      by (inr f) (goes y t g h i mk) = absurd (let z : ◌≡◌ {A = ℕ} 0 1 = cc in omega arith)
      by f (finishes g h) = stays (λ t. not_turns h)
      by f (halts g h) = stays (λ t. not_turns_stuck h)

  -- ---- the answers of the end

  pub end_by_test : (b : Bool) → Target (held nodes) n q → n ≡ q → (b ≡ true → r ≡ Ends) → (b ≡ false → r ≡ Ends → ⊥) → Ended n e p b
  end_by_test b target past_all is-end not-end = by b is-end not-end (finish nodes begun nulls plan counts n q e p v r pl target here m w)
    where
      by : (b : Bool) → (b ≡ true → r ≡ Ends) → (b ≡ false → r ≡ Ends → ⊥) → Finish nodes begun nulls plan counts q e p r → Ended n e p b
      by true is-end not-end (goes y t g h i mk) = let k : r ≡ Ends = is-end refl in absurd (let z : ◌≡◌ {A = ℕ} 0 1 = cc in omega arith)
      by true is-end not-end (finishes g h) = ended (subst (λ (i : ℕ). way 0 e p i ≡ ends) (sym past_all) h)
      by true is-end not-end (halts g h) = let k : r ≡ Ends = is-end refl in absurd (let z : ◌≡◌ {A = ℕ} 0 1 = cc in omega arith)
      by false is-end not-end (goes y t g h i mk) = open_yet (λ k. not_turns (subst (λ (i : ℕ). way 0 e p i ≡ ends) past_all k) h)
      by false is-end not-end (finishes g h) = absurd (not-end refl g)
      by false is-end not-end (halts g h) = open_yet (λ k. not_ends h (subst (λ (i : ℕ). way 0 e p i ≡ ends) past_all k))

-- ---- the answers at the start

pub start_by_test : (nodes : Nodes) (begun : List ℕ) (nulls : List Bool) (plan : Links) (counts d : List ℕ) (n q : ℕ) (b : Bool) (e : Expr) → Plans nodes begun nulls plan n e → kind_of (held nodes q) ≡ 1 → Unmarked counts
    → b ≡ begins_of begun plan (n - 1) q → (b ≡ true → MarksUp nodes plan n (above_at plan q) counts d) → (b ≡ false → counts ≡ d)
    → Started e q b counts d
start_by_test nodes begun nulls plan counts d n q b e pl k m f yes-sets no-sets =
    let z = root-size 0 e in
    let last : n - 1 ≡ root 0 e = omega (arith, pl.listing.sized) in
    by b
    (subst (BeginsWith 0 e q) (sym (f ∙ ap (λ (y : ℕ). begins_of begun plan y q) last))
    (begins_by_test (held nodes) begun plan n 0 e top (root 0 e) q pl.listing.stands pl.planned (start_of_part (held nodes) begun n 0 e pl.begun pl.listing.stands (omega (arith, pl.listing.sized))) (omega arith)
    (omega (arith, pl.listing.sized)) (at k)))
    yes-sets no-sets
  where
    by : (b : Bool) → BeginsWith 0 e q b → (b ≡ true → MarksUp nodes plan n (above_at plan q) counts d) → (b ≡ false → counts ≡ d) → Started e q b counts d
    by true (does t g can i) u v =
        let sets = subst (λ (y : ℕ). MarksUp nodes plan n (above_at plan y) counts d) (sym i) (u refl) in
        let w =
        entered nodes plan n n pl.ranks pl.few_repeats 0 0 e top (root 0 e) t counts d pl.listing.stands pl.planned (omega (arith, pl.listing.sized))
        (omega (arith, pl.listing.sized)) refl can (λ j x y. m.none j) m.long sets in
        let same : w.now ≡ d = marks_done pl.listing.few w.on in
        starts t g i
        (subst (λ (x : List ℕ). Marked x e t) same
        (record { holds = w.holds; past = λ j h. w.beside j (inr (omega arith)) ∙ m.none j; long = w.long }))
    by false (does_not g) u v = subst (λ (x : List ℕ). Started e q false counts x) (v refl) (stays g)
