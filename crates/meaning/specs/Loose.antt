-- The loosened procedure, and which event nodes can directly follow one another in it.
use Rattle.std.specs.Prelude.{◌≡◌, Bool, true, cond, List, [], ◌∷◌, ◌++◌, ℕ, zero, suc, leb}
use Rattle.meaning.specs.Expr.{Expr, empty, event, choice, sequence, repeat, Upper, upto, endless}
use Rattle.meaning.specs.Normal.{nullable, low}
use Rattle.meaning.specs.Reading.{Item, place, Reading, codes}

-- upper is at least 2
abbrev pub many : Upper → Bool
many (upto n) = leb 2 n
many endless = true

-- 0 stays 0, any other becomes 1
abbrev pub at_most_one : ℕ → ℕ
at_most_one zero = 0
at_most_one (suc n) = 1

-- every repeat whose upper is at least 2 is loosened: normal-form lower 0 stays 0, any other becomes 1; no upper bound
abbrev pub loosen : Expr → Expr
loosen empty = empty
loosen (event c) = event c
loosen (choice l r) = choice (loosen l) (loosen r)
loosen (sequence l r) = sequence (loosen l) (loosen r)
loosen (repeat b lower upper) =
    cond (many upper) (repeat (loosen b) (at_most_one (low (nullable b) lower)) endless) (repeat (loosen b) lower upper)

-- event node j, with the code, directly follows event node i in some reading: only marks stand between them
pub data DirectlyFollows (e : Expr) (i j code : ℕ) : Type 0 where
  follows : (u m v : List Item) (c : ℕ) → codes m ≡ [] → Reading 0 e (u ++ (place i c ∷ (m ++ (place j code ∷ v)))) → DirectlyFollows e i j code
