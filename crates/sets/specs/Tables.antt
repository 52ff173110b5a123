-- A table of sets: for each node the codes that are said of its part, as `First` and `After` say them. A model of our code, and no promise.
use Rattle.std.specs.Prelude.{◌≡◌, ◌↔◌, List, ℕ, ◌<◌, get_or}
use Rattle.codes.specs.Codes.{Codes, Contains, no_codes}
use Rattle.meaning.specs.Expr.{Expr, root}
use Rattle.meaning.specs.Node.{Node, Stands}

-- the set has the codes that P says of the part of node i
unfoldable pub SetAt : (Expr → ℕ → Type 0) → (ℕ → Node) → ℕ → Codes → Type 0
SetAt P g i set = (s : ℕ) (e : Expr) → Stands g s e → root s e ≡ i → (c : ℕ) → Contains set c ↔ P e c

-- the table has such a set for each node below n
unfoldable pub TellsSets : (Expr → ℕ → Type 0) → (ℕ → Node) → List Codes → ℕ → Type 0
TellsSets P g sets n = (i : ℕ) → i < n → SetAt P g i (get_or sets i no_codes)
