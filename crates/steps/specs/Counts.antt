-- How a turn changes the counters. A model of our code, and no promise.
use Rattle.std.specs.Prelude.{◌≡◌, ◌⊎◌, Bool, false, cond, List, ℕ, ◌+◌, ◌-◌, ◌≤◌, ◌<◌, min, eqb, length, get_or, set}
use Rattle.meaning.specs.Node.{Node, bound}
use Rattle.meaning.specs.Normal.{low}
use Rattle.meaning.specs.Theory.Counts.{most}
use Rattle.procedure.specs.Entry.{Nodes, held, kind_of, lower_of, upper_of}
use Rattle.plan.specs.Link.{Links}
use Rattle.plan.specs.Plan.{above_at, rank_at, start_at}
use Rattle.plan.specs.declared.Plan as plan

-- where node y is a repeat, its counter is made 1
abbrev pub marked : Nodes → Links → ℕ → List ℕ → List ℕ
marked nodes plan y c = cond (eqb (kind_of (held nodes y)) 4) (set c (rank_at plan y) 1) c

-- upward from node y, each repeat below node x gets the counter 1
pub data MarksUp (nodes : Nodes) (plan : Links) (x : ℕ) : ℕ → List ℕ → List ℕ → Type 0 where
  done : {y : ℕ} {c : List ℕ} → x ≤ y → MarksUp nodes plan x y c c
  next : {y : ℕ} {c d : List ℕ} → y < x → MarksUp nodes plan x (above_at plan y) (marked nodes plan y c) d → MarksUp nodes plan x y c d

-- the counters from rank `from` on and before rank `to` are made 0
pub record Cleared (from to : ℕ) (c d : List ℕ) : Type 0 where
  pub gone : (j : ℕ) → from ≤ j → j < to → get_or d j 0 ≡ 0
  pub kept : (j : ℕ) → (j < from) ⊎ (to ≤ j) → get_or d j 0 ≡ get_or c j 0
  pub long : length d ≡ length c

-- a repeat's counter after one more block, up to the largest number that it holds
abbrev pub one_more : Node → Bool → ℕ → ℕ
one_more m null c = min (c + 1) (most (low null (lower_of m)) (bound (upper_of m)))

-- where node x is a repeat, its counter is raised by one more block
abbrev pub raised : Nodes → List Bool → Links → ℕ → List ℕ → List ℕ
raised nodes nulls plan x c =
    cond (eqb (kind_of (held nodes x)) 4)
    (set c (rank_at plan x) (one_more (held nodes x) (get_or nulls (x - 1) false) (get_or c (rank_at plan x) 0)))
    c

-- the counters after a turn at node x towards event node q
abbrev pub TurnedTo : Nodes → List ℕ → List Bool → Links → ℕ → ℕ → List ℕ → List ℕ → Type 0
TurnedTo nodes starts nulls plan x q c d =
    (z : List ℕ) × Cleared (rank_at plan (start_at starts x)) (rank_at plan x) c z × MarksUp nodes plan x (above_at plan q) (raised nodes nulls plan x z) d

-- ---- the same by a plan as the code holds it

abbrev pub MarksBy : plan.Plan → ℕ → ℕ → List ℕ → List ℕ → Type 0
MarksBy p x q c d = MarksUp p.procedure.now.nodes p.links.now x (above_at p.links.now q) c d

abbrev pub TurnedBy : plan.Plan → ℕ → ℕ → List ℕ → List ℕ → Type 0
TurnedBy p x q c d = TurnedTo p.procedure.now.nodes p.procedure.now.starts p.procedure.now.nulls p.links.now x q c d
