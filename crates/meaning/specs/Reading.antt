-- Readings: an event stands for its node, and a repeat's blocks have an opening and a closing.
use Rattle.std.specs.Prelude.{List, [], ◌∷◌, ◌++◌, ℕ, zero, suc, ◌+◌, ◌≤◌, length}
use Rattle.meaning.specs.Expr.{Expr, empty, event, choice, sequence, repeat, size}
use Rattle.meaning.specs.Lists.{Nil, One, Or, Cat, Times}
use Rattle.meaning.specs.Normal.{nullable, low}

-- an event, by its node and its code; an opening and a closing, by the node of the repeat
pub data Item : Type 0 where
  place : ℕ → ℕ → Item
  opening : ℕ → Item
  closing : ℕ → Item

-- the event codes of a list of items
abbrev pub codes : List Item → List ℕ
codes [] = []
codes (place i c ∷ x) = c ∷ codes x
codes (opening r ∷ x) = codes x
codes (closing r ∷ x) = codes x

-- the items up to and including the n-th event
abbrev pub up_to : List Item → ℕ → List Item
up_to [] n = []
up_to (place i c ∷ x) zero = []
up_to (place i c ∷ x) (suc n) = place i c ∷ up_to x n
up_to (opening r ∷ x) zero = []
up_to (opening r ∷ x) (suc n) = opening r ∷ up_to x (suc n)
up_to (closing r ∷ x) zero = []
up_to (closing r ∷ x) (suc n) = closing r ∷ up_to x (suc n)

-- a block of repeat r: an opening, a reading of the body that holds at least one event, a closing
pub data Block (P : List Item → Type 0) (r : ℕ) : List Item → Type 0 where
  block : (x : List Item) → 1 ≤ length (codes x) → P x → Block P r (opening r ∷ (x ++ (closing r ∷ [])))

-- the items are a reading of the part whose nodes stand from number s on
abbrev pub Reading : ℕ → Expr → List Item → Type 0
Reading s empty = Nil
Reading s (event c) = One (place s c)
Reading s (choice l r) = Or (Reading s l) (Reading (s + size l) r)
Reading s (sequence l r) = Cat (Reading s l) (Reading (s + size l) r)
Reading s (repeat b lower upper) = Times (Block (Reading s b) (s + size b)) (low (nullable b) lower) upper
