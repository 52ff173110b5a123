-- Normal form: over a body that has the empty word, lower is taken as 0.
use Rattle.std.specs.Prelude.{Bool, true, false, ◌&&◌, ◌||◌, ℕ, zero, suc}
use Rattle.meaning.specs.Expr.{Expr, empty, event, choice, sequence, repeat}

-- the number is 0
abbrev pub is_zero : ℕ → Bool
is_zero zero = true
is_zero (suc n) = false

-- the part has the empty word
abbrev pub nullable : Expr → Bool
nullable empty = true
nullable (event c) = false
nullable (choice l r) = nullable l || nullable r
nullable (sequence l r) = nullable l && nullable r
nullable (repeat b lower upper) = is_zero lower || nullable b

-- the normal-form lower bound: 0 if the body has the empty word, else the lower bound as written
abbrev pub low : Bool → ℕ → ℕ
low true lower = 0
low false lower = lower

-- the expression with every bound in normal form
abbrev pub normal : Expr → Expr
normal empty = empty
normal (event c) = event c
normal (choice l r) = choice (normal l) (normal r)
normal (sequence l r) = sequence (normal l) (normal r)
normal (repeat b lower upper) = repeat (normal b) (low (nullable b) lower) upper
