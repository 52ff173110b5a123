-- Sets of lists, built as the request builds languages and readings.
use Rattle.std.specs.Prelude.{List, [], ◌∷◌, ◌++◌, ℕ, zero, suc, ◌≤◌}
use Rattle.meaning.specs.Expr.{Upper, Within}

-- the empty list alone
pub data Nil {A : Type 0} : List A → Type 0 where
  nil : Nil []

-- the list of the one element a
pub data One {A : Type 0} (a : A) : List A → Type 0 where
  one : One a (a ∷ [])

-- the union of two sets
pub data Or {A : Type 0} (P Q : List A → Type 0) : List A → Type 0 where
  left : {w : List A} → P w → Or P Q w
  right : {w : List A} → Q w → Or P Q w

-- a list of the first set, then one of the second
pub data Cat {A : Type 0} (P Q : List A → Type 0) : List A → Type 0 where
  cat : (u v : List A) → P u → Q v → Cat P Q (u ++ v)

-- j lists of the set, one after the other
pub data Power {A : Type 0} (P : List A → Type 0) : ℕ → List A → Type 0 where
  none : Power P zero []
  more : (j : ℕ) (u v : List A) → P u → Power P j v → Power P (suc j) (u ++ v)

-- j lists of the set, j from lower to upper
pub data Times {A : Type 0} (P : List A → Type 0) (lower : ℕ) (upper : Upper) : List A → Type 0 where
  times : {w : List A} (j : ℕ) → lower ≤ j → Within j upper → Power P j w → Times P lower upper w
