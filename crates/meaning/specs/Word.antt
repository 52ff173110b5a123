-- Words: the language of an expression, with the bounds as written.
use Rattle.std.specs.Prelude.{List, ◌++◌, ℕ}
use Rattle.meaning.specs.Expr.{Expr, empty, event, choice, sequence, repeat}
use Rattle.meaning.specs.Lists.{Nil, One, Or, Cat, Times}

-- the run is a word of the expression
abbrev pub Word : Expr → List ℕ → Type 0
Word empty = Nil
Word (event c) = One c
Word (choice l r) = Or (Word l) (Word r)
Word (sequence l r) = Cat (Word l) (Word r)
Word (repeat b lower upper) = Times (Word b) lower upper

-- the run begins some word
abbrev pub Begins : Expr → List ℕ → Type 0
Begins e u = (w : List ℕ) × Word e (u ++ w)
