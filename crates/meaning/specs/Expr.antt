-- Expressions, and the numbers of their nodes.
use Rattle.std.specs.Prelude.{◌≡◌, ◌⊎◌, ℕ, ◌+◌, ◌≤◌}

-- an upper bound: a number, or none
pub data Upper : Type 0 where
  upto : ℕ → Upper
  endless : Upper

-- j is at most the upper bound
abbrev pub Within : ℕ → Upper → Type 0
Within j (upto n) = j ≤ n
Within j endless = Unit {0}

-- empty; an event with its code; choice; sequence; a repeat with its body, lower and upper
pub data Expr : Type 0 where
  empty : Expr
  event : ℕ → Expr
  choice : Expr → Expr → Expr
  sequence : Expr → Expr → Expr
  repeat : Expr → ℕ → Upper → Expr

-- how many nodes a part has
abbrev pub size : Expr → ℕ
size empty = 1
size (event c) = 1
size (choice l r) = size l + size r + 1
size (sequence l r) = size l + size r + 1
size (repeat b lower upper) = size b + 1

-- the number of a part's own node, where its nodes stand in postfix order from number s
abbrev pub root : ℕ → Expr → ℕ
root s empty = s
root s (event c) = s
root s (choice l r) = s + size l + size r
root s (sequence l r) = s + size l + size r
root s (repeat b lower upper) = s + size b

-- p is the whole of e, which begins at s, and i is its node
abbrev pub Whole : ℕ → Expr → ℕ → Expr → Type 0
Whole s e i p = (i ≡ root s e) × (p ≡ e)

-- p is the part with node i of the expression that begins at s
abbrev pub Part : ℕ → Expr → ℕ → Expr → Type 0
Part s empty i p = Whole s empty i p
Part s (event c) i p = Whole s (event c) i p
Part s (choice l r) i p = Part s l i p ⊎ Part (s + size l) r i p ⊎ Whole s (choice l r) i p
Part s (sequence l r) i p = Part s l i p ⊎ Part (s + size l) r i p ⊎ Whole s (sequence l r) i p
Part s (repeat b lower upper) i p = Part s b i p ⊎ Whole s (repeat b lower upper) i p

-- every repeat has lower at most upper, and upper at least 1
abbrev pub Bounded : Expr → Type 0
Bounded empty = Unit {0}
Bounded (event c) = Unit {0}
Bounded (choice l r) = Bounded l × Bounded r
Bounded (sequence l r) = Bounded l × Bounded r
Bounded (repeat b lower upper) = Bounded b × Within lower upper × Within 1 upper
