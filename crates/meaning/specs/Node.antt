-- Node records: the table of kinds, and how an expression stands in them.
use Rattle.std.specs.Prelude.{◌≡◌, ◌⊎◌, cond, ℕ, zero, suc, ◌+◌, ◌≤◌, eqb}
use Rattle.meaning.specs.Codes.{most_code}
use Rattle.meaning.specs.Expr.{Expr, empty, event, choice, sequence, repeat, Upper, upto, endless, size, root}

-- a node record: kind, code, three fields
pub data Node : Type 0 where
  node : ℕ → ℕ → ℕ → ℕ → ℕ → Node

-- an upper bound as it may be written: 1 to 4,096, or 65,535
abbrev pub UpperWritten : ℕ → Type 0
UpperWritten u = ((1 ≤ u) × (u ≤ 4096)) ⊎ (u ≡ 65535)

-- the node record keeps to the table with event codes 0 to `most`: a line for each kind
pub data InTableTo (most : ℕ) : Node → Type 0 where
  empty_line : InTableTo most (node 0 0 0 0 0)
  event_line : (c : ℕ) → c ≤ most → InTableTo most (node 1 c 0 0 0)
  choice_line : (l r : ℕ) → InTableTo most (node 2 0 l r 0)
  sequence_line : (l r : ℕ) → InTableTo most (node 3 0 l r 0)
  repeat_line : (b lower upper : ℕ) → lower ≤ 4096 → UpperWritten upper → lower ≤ upper → InTableTo most (node 4 0 b lower upper)

-- the node record keeps to the table
abbrev pub InTable : Node → Type 0
InTable = InTableTo most_code

-- the upper bound that a number means: 65,535 is none
abbrev pub bound : ℕ → Upper
bound u = cond (eqb u 65535) endless (upto u)

-- the part e stands in postfix order from node s on, each child field naming the child's node
abbrev pub Stands : (ℕ → Node) → ℕ → Expr → Type 0
Stands g s empty = g s ≡ node 0 0 0 0 0
Stands g s (event c) = g s ≡ node 1 c 0 0 0
Stands g s (choice l r) =
    Stands g s l × Stands g (s + size l) r × (g (s + size l + size r) ≡ node 2 0 (root s l) (root (s + size l) r) 0)
Stands g s (sequence l r) =
    Stands g s l × Stands g (s + size l) r × (g (s + size l + size r) ≡ node 3 0 (root s l) (root (s + size l) r) 0)
Stands g s (repeat b lower upper) =
    Stands g s b × ((u : ℕ) × (g (s + size b) ≡ node 4 0 (root s b) lower u) × (upper ≡ bound u))

-- node i is in order: it is the root of a part that stands before it
abbrev pub InOrder : (ℕ → Node) → ℕ → Type 0
InOrder g i = (s : ℕ) × (e : Expr) × Stands g s e × (root s e ≡ i)

-- 1 for a repeat, 0 for any other node
abbrev pub is_repeat : Node → ℕ
is_repeat (node k c x y z) = cond (eqb k 4) 1 0

-- how many repeats there are among the nodes below i
abbrev pub repeats_below : (ℕ → Node) → ℕ → ℕ
repeats_below g zero = 0
repeats_below g (suc i) = repeats_below g i + is_repeat (g i)
