-- No promise, a notion of the proofs: parts without a conflict, by recursion over the tree.
use Rattle.std.specs.Prelude.{ℕ}
use Rattle.meaning.specs.Expr.{Expr, empty, event, choice, sequence, repeat}
use Rattle.meaning.specs.Conflict.{Conflict}

-- no node of the part has a conflict
abbrev pub Free : Expr → Type 0
Free empty = Unit {0}
Free (event c) = Unit {0}
Free (choice l r) = Free l × Free r × ((k c : ℕ) → ¬ Conflict (choice l r) k c)
Free (sequence l r) = Free l × Free r × ((k c : ℕ) → ¬ Conflict (sequence l r) k c)
Free (repeat b lower upper) = Free b × ((k c : ℕ) → ¬ Conflict (repeat b lower upper) k c)
