-- Strong determinism.
use Rattle.std.specs.Prelude.{◌≡◌, List, ℕ, ◌≤◌, length, take}
use Rattle.meaning.specs.Expr.{Expr}
use Rattle.meaning.specs.Reading.{Item, Reading, codes, up_to}

-- no two readings agree in event codes up to and including the n-th event but differ in an item up to and including it
unfoldable pub StronglyDeterministic : Expr → Type 0
StronglyDeterministic e =
    (n : ℕ) (x y : List Item) → Reading 0 e x → Reading 0 e y → n ≤ length (codes x) → n ≤ length (codes y)
    → take n (codes x) ≡ take n (codes y) → up_to x n ≡ up_to y n
