-- The plan of a procedure: what its links say of each node. A model of our code, and no promise.
use Rattle.std.specs.Prelude.{◌≡◌, Bool, cond, ◌&&◌, List, ℕ, ◌+◌, ◌≤◌, ◌<◌, leb}
use Rattle.meaning.specs.Expr.{Expr, empty, event, choice, sequence, repeat, size, root}
use Rattle.meaning.specs.Node.{repeats_below}
use Rattle.meaning.specs.Normal.{nullable}
use Rattle.procedure.specs.Entry.{Nodes, held}
use Rattle.procedure.specs.Listing.{Listing, TellsNulls, TellsStarts}
use Rattle.plan.specs.Link.{Links}
pub use Rattle.plan.specs.Rising.{above_at, begins_at, rank_at, start_at, Rises}
use Rattle.plan.specs.declared.Plan as plan

-- the node above all others: no node is there
abbrev pub top : ℕ
top = 512

-- the plan says of node i that a is the next node above that matters, and h the highest that i can begin
abbrev pub Told : Links → ℕ → ℕ → ℕ → Type 0
Told plan i a h = (above_at plan i ≡ a) × (begins_at plan i ≡ h)

-- what the plan says of the nodes of a part, where it says a and h of the part's own node
abbrev pub Planned : Links → ℕ → Expr → ℕ → ℕ → Type 0
Planned plan s empty a h = Told plan s a h
Planned plan s (event c) a h = Told plan s a h
Planned plan s (choice l r) a h =
    Told plan (s + size l + size r) a h × Planned plan s l a h × Planned plan (s + size l) r a h
Planned plan s (sequence l r) a h =
    Told plan (s + size l + size r) a h
    × Planned plan s l (s + size l + size r) h
    × Planned plan (s + size l) r a (cond (nullable l) h (root (s + size l) r))
Planned plan s (repeat b lower upper) a h = Told plan (s + size b) a h × Planned plan s b (s + size b) h

-- the plan of an expression, beside what reading its file hands out
pub record Plans (nodes : Nodes) (starts : List ℕ) (nulls : List Bool) (plan : Links) (n : ℕ) (e : Expr) : Type 0 where
  pub listing : Listing nodes n e
  pub begun : TellsStarts (held nodes) starts n
  pub empties : TellsNulls (held nodes) nulls n
  pub few_repeats : repeats_below (held nodes) n ≤ 32
  pub ranks : (i : ℕ) → i < n → rank_at plan i ≡ repeats_below (held nodes) i
  pub planned : Planned plan 0 e top (root 0 e)

-- the part of node y can begin with event node q, as the plan says it
abbrev pub begins_of : List ℕ → Links → ℕ → ℕ → Bool
begins_of starts plan y q = leb (start_at starts y) q && (leb q y && leb y (begins_at plan q))

-- ---- the same by a plan as the code holds it

-- the plan is that of the expression
abbrev pub PlanOf : plan.Plan → Expr → Type 0
PlanOf p e = Plans p.procedure.now.nodes p.procedure.now.starts p.procedure.now.nulls p.links.now p.procedure.now.count e
