-- The pass makes the plan, and the plan leads upward. Assumes nothing.
use mathlib.Core.Path.{◌≡◌, sym, ap, subst, ◌∙◌}
use mathlib.Core.Bool.{Bool}
use mathlib.Core.List.{List}
use Prim.Native.Nat.{ℕ, suc, ◌+◌, ◌-◌, ◌≤◌, ◌<◌}
use native.Mathlib.Omega.{arith}
use lib.ListN.{length, length-set}
use Rattle.meaning.specs.Expr.{Expr, empty, event, choice, sequence, repeat, size, root}
use Rattle.meaning.proofs.Expressions.Parts.{root-size}
use Rattle.procedure.specs.Entry.{Nodes, held}
use Rattle.procedure.specs.Listing.{Tables}
use Rattle.procedure.proofs.Counting.{repeat_counts}
use Rattle.procedure.proofs.Orders.{spans_below, start_told}
use Rattle.plan.specs.Link.{Links, told_in}
use Rattle.plan.specs.Plan.{above_at, top, Planned, Plans, Rises}
use Rattle.plan.specs.Filling.{tell, down}
use Rattle.plan.proofs.Beginnings.{among}
use Rattle.meaning.proofs.File.Ranks.{below_rises}
use Rattle.plan.proofs.Downward.{told_there, down_part}

-- the root is told of the top, and the pass goes down from it
pub plans_made : {nodes : Nodes} {starts : List ℕ} {nulls : List Bool} {repeats : List ℕ} (p : Links) {d f : Links} {n r : ℕ} {e : Expr} → length p ≡ 512
    → Tables nodes starts nulls repeats n r e → d ≡ tell p (n - 1) top (n - 1) → f ≡ down nodes nulls d n → Plans nodes starts nulls f n e
plans_made {nodes} {starts} {nulls} {repeats} p {d} {f} {n} {r} {e} long t ed ef =
    let l = t.listing in
    let z = root-size 0 e in
    let sized = l.sized in
    let most = l.few in
    let last : n - 1 ≡ root 0 e = omega arith in
    let first = tell p (root 0 e) top (root 0 e) in
    let counted = t.ranked.counted in
    let few = t.few_repeats in
    let w =
    down_part nodes nulls n most (λ i h. omega (arith, below_rises (held nodes) i n (omega arith))) t.empties 0 e top (root 0 e) first
    l.stands (omega arith) (omega arith) (omega arith) (length-set p (root 0 e) (told_in top (root 0 e)) ∙ long)
    (told_there (root 0 e) top (root 0 e) p (omega arith) (omega arith) (omega arith)) in
    let whole : 0 + size e ≡ n = omega arith in
    let done : w.after ≡ f =
    sym w.rest ∙ ap (down nodes nulls first) whole ∙ ap (λ (y : ℕ). down nodes nulls (tell p y top y) n) (sym last)
    ∙ ap (λ (x : Links). down nodes nulls x n) (sym ed) ∙ sym ef in
    subst (λ (x : Links). Plans nodes starts nulls x n e) done
    record {
      listing = l;
      begun = t.begun;
      empties = t.empties;
      few_repeats = omega arith;
      ranks = λ i h. w.ranks i (omega arith) (omega arith);
      planned = w.planned;
    }

-- ---- the plan leads upward

planned_up : (plan : Links) (s : ℕ) (e : Expr) (a h : ℕ) → Planned plan s e a h → s + size e ≤ a → (j : ℕ) → s ≤ j → j < s + size e
    → j < above_at plan j
planned_up plan s empty a h pl up j from below =
    let same : s ≡ j = omega arith in subst (λ (i : ℕ). i < above_at plan i) same (omega (arith, pl.0))
planned_up plan s (event c) a h pl up j from below =
    let same : s ≡ j = omega arith in subst (λ (i : ℕ). i < above_at plan i) same (omega (arith, pl.0))
planned_up plan s (choice l r) a h pl up j from below =
    among (s + size l) (s + size l + size r) j (omega arith)
    (λ b. planned_up plan s l a h pl.1 (omega arith) j from b)
    (λ f b. planned_up plan (s + size l) r a h pl.2 (omega arith) j f b)
    (λ e. subst (λ (i : ℕ). i < above_at plan i) (sym e) (omega (arith, pl.0.0)))
planned_up plan s (sequence l r) a h pl up j from below =
    among (s + size l) (s + size l + size r) j (omega arith)
    (λ b. planned_up plan s l _ h pl.1 (omega arith) j from b)
    (λ f b. planned_up plan (s + size l) r a _ pl.2 (omega arith) j f b)
    (λ e. subst (λ (i : ℕ). i < above_at plan i) (sym e) (omega (arith, pl.0.0)))
planned_up plan s (repeat b lower upper) a h pl up j from below =
    among (s + size b) (s + size b) j (omega arith)
    (λ c. planned_up plan s b _ h pl.1 (omega arith) j from c)
    (λ f c. absurd (omega arith))
    (λ e. subst (λ (i : ℕ). i < above_at plan i) (sym e) (omega (arith, pl.0.0)))

pub rises : {nodes : Nodes} {starts : List ℕ} {nulls : List Bool} {plan : Links} {n : ℕ} {e : Expr} → Plans nodes starts nulls plan n e → Rises nodes starts plan n
rises {nodes} {starts} {nulls} {plan} {n} {e} w i h =
    let few = below_rises (held nodes) (suc i) n h in
    let rank = w.ranks i h in
    let most = w.few_repeats in
    let sized = w.listing.sized in
    record {
      up = planned_up plan 0 e top (root 0 e) w.planned (omega (arith, w.listing.few)) i (omega arith) (omega arith);
      counted = λ k. omega (arith, repeat_counts (held nodes i) k);
      from = spans_below (held nodes) _ i (start_told (held nodes) starts n i w.begun h);
      few = omega arith;
    }
