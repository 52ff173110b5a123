-- No promise, a notion of the proofs: places, where a run stands just after an event, how it goes on, and the items around it.
use Rattle.std.specs.Prelude.{◌≡◌, ◌⊎◌, List, [], ◌∷◌, ◌++◌, ℕ, zero, suc, ◌+◌, ◌≤◌}
use Rattle.std.proofs.Common.{inl, inr}
use Rattle.std.proofs.Math.Bool.{So}
use Rattle.meaning.specs.Expr.{Expr, empty, event, choice, sequence, repeat, size, Upper, Within}
use Rattle.meaning.specs.Lists.{Nil, One, Cat, Power}
use Rattle.meaning.specs.Normal.{nullable, low}
use Rattle.meaning.specs.Reading.{Item, place, opening, closing, Block, Reading}

-- a place just after an event; at a repeat, with the number of blocks completed in the present stay
abbrev pub Place : Expr → Type 0
Place empty = ⊥
Place (event c) = Unit {0}
Place (choice l r) = Place l ⊎ Place r
Place (sequence l r) = Place l ⊎ Place r
Place (repeat b lower upper) = Place b × ℕ

-- the node of the event just passed
abbrev pub node_of : ℕ → (e : Expr) → Place e → ℕ
node_of s empty p = elim p [ ]
node_of s (event c) p = s
node_of s (choice l r) (inl p) = node_of s l p
node_of s (choice l r) (inr p) = node_of (s + size l) r p
node_of s (sequence l r) (inl p) = node_of s l p
node_of s (sequence l r) (inr p) = node_of (s + size l) r p
node_of s (repeat b lower upper) p = node_of s b p.0

-- its code
abbrev pub code_at : (e : Expr) → Place e → ℕ
code_at empty p = elim p [ ]
code_at (event c) p = c
code_at (choice l r) (inl p) = code_at l p
code_at (choice l r) (inr p) = code_at r p
code_at (sequence l r) (inl p) = code_at l p
code_at (sequence l r) (inr p) = code_at r p
code_at (repeat b lower upper) p = code_at b p.0

-- its item
abbrev pub item_of : ℕ → (e : Expr) → Place e → Item
item_of s e p = place (node_of s e p) (code_at e p)

-- no repeat has begun more blocks than its upper bound allows
abbrev pub Sound : (e : Expr) → Place e → Type 0
Sound empty p = ⊥
Sound (event c) p = Unit {0}
Sound (choice l r) (inl p) = Sound l p
Sound (choice l r) (inr p) = Sound r p
Sound (sequence l r) (inl p) = Sound l p
Sound (sequence l r) (inr p) = Sound r p
Sound (repeat b lower upper) p = Sound b p.0 × Within (suc p.1) upper

-- a reading of the part may begin with the place
abbrev pub CanStart : (e : Expr) → Place e → Type 0
CanStart empty p = ⊥
CanStart (event c) p = Unit {0}
CanStart (choice l r) (inl p) = CanStart l p
CanStart (choice l r) (inr p) = CanStart r p
CanStart (sequence l r) (inl p) = CanStart l p
CanStart (sequence l r) (inr p) = So (nullable l) × CanStart r p
CanStart (repeat b lower upper) p = CanStart b p.0 × (p.1 ≡ zero)

-- the openings passed on the way from the part's beginning to the place
abbrev pub opens : ℕ → (e : Expr) → Place e → List Item
opens s empty p = elim p [ ]
opens s (event c) p = []
opens s (choice l r) (inl p) = opens s l p
opens s (choice l r) (inr p) = opens (s + size l) r p
opens s (sequence l r) (inl p) = opens s l p
opens s (sequence l r) (inr p) = opens (s + size l) r p
opens s (repeat b lower upper) p = opening (s + size b) ∷ opens s b p.0

-- a reading of the part may end with the place
abbrev pub CanEnd : (e : Expr) → Place e → Type 0
CanEnd empty p = ⊥
CanEnd (event c) p = Unit {0}
CanEnd (choice l r) (inl p) = CanEnd l p
CanEnd (choice l r) (inr p) = CanEnd r p
CanEnd (sequence l r) (inl p) = CanEnd l p × So (nullable r)
CanEnd (sequence l r) (inr p) = CanEnd r p
CanEnd (repeat b lower upper) p = CanEnd b p.0 × (low (nullable b) lower ≤ suc p.1)

-- the closings passed on the way from the place to the part's end
abbrev pub closes : ℕ → (e : Expr) → Place e → List Item
closes s empty p = elim p [ ]
closes s (event c) p = []
closes s (choice l r) (inl p) = closes s l p
closes s (choice l r) (inr p) = closes (s + size l) r p
closes s (sequence l r) (inl p) = closes s l p
closes s (sequence l r) (inr p) = closes (s + size l) r p
closes s (repeat b lower upper) p = closes s b p.0 ++ (closing (s + size b) ∷ [])

-- the event of the second place can come directly after that of the first, and the marks passed between them are m
abbrev pub Step : ℕ → (e : Expr) → Place e → Place e → List Item → Type 0
Step s empty p q m = ⊥
Step s (event c) p q m = ⊥
Step s (choice l r) (inl p) (inl q) m = Step s l p q m
Step s (choice l r) (inl p) (inr q) m = ⊥
Step s (choice l r) (inr p) (inl q) m = ⊥
Step s (choice l r) (inr p) (inr q) m = Step (s + size l) r p q m
Step s (sequence l r) (inl p) (inl q) m = Step s l p q m
Step s (sequence l r) (inl p) (inr q) m = CanEnd l p × CanStart r q × (m ≡ closes s l p ++ opens (s + size l) r q)
Step s (sequence l r) (inr p) (inl q) m = ⊥
Step s (sequence l r) (inr p) (inr q) m = Step (s + size l) r p q m
Step s (repeat b lower upper) p q m =
    (Step s b p.0 q.0 m × (q.1 ≡ p.1))
    ⊎ (CanEnd b p.0
    × CanStart b q.0
    × (q.1 ≡ suc p.1)
    × Within (suc q.1) upper
    × (m ≡ closes s b p.0 ++ (closing (s + size b) ∷ opening (s + size b) ∷ opens s b q.0)))

-- further blocks of a repeat, k of them begun already
pub data Blocks (P : List Item → Type 0) (lower : ℕ) (upper : Upper) (k : ℕ) : List Item → Type 0 where
  blocks : {y : List Item} (j : ℕ) → lower ≤ k + j → Within (k + j) upper → Power P j y → Blocks P lower upper k y

-- the items complete a reading of the part from just after the place
abbrev pub Rest : ℕ → (e : Expr) → Place e → List Item → Type 0
Rest s empty p = λ y. ⊥
Rest s (event c) p = Nil
Rest s (choice l r) (inl p) = Rest s l p
Rest s (choice l r) (inr p) = Rest (s + size l) r p
Rest s (sequence l r) (inl p) = Cat (Rest s l p) (Reading (s + size l) r)
Rest s (sequence l r) (inr p) = Rest (s + size l) r p
Rest s (repeat b lower upper) p =
    Cat (Rest s b p.0) (Cat (One (closing (s + size b))) (Blocks (Block (Reading s b) (s + size b)) (low (nullable b) lower) upper (suc p.1)))

-- the items begin a reading of the part, up to and including the event of the place
abbrev pub Before : ℕ → (e : Expr) → Place e → List Item → Type 0
Before s empty p = λ x. ⊥
Before s (event c) p = One (place s c)
Before s (choice l r) (inl p) = Before s l p
Before s (choice l r) (inr p) = Before (s + size l) r p
Before s (sequence l r) (inl p) = Before s l p
Before s (sequence l r) (inr p) = Cat (Reading s l) (Before (s + size l) r p)
Before s (repeat b lower upper) p =
    Cat (Power (Block (Reading s b) (s + size b)) p.1) (Cat (One (opening (s + size b))) (Before s b p.0))
