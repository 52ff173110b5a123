-- The marks that a part passes: they hold no event, and they name only nodes of the part.
use mathlib.Core.Path.{◌≡◌, refl, ap, ◌∙◌, subst, subst⁻¹}
use mathlib.Core.Logic.{inl, inr}
use mathlib.Core.List.{List, [], ◌∷◌, ◌++◌, append-nil, head-eq_of_cons-eq, tail-eq_of_cons-eq}
use Prim.Native.Nat.{ℕ, suc, ◌+◌, ◌≤◌, ◌<◌}
use native.Mathlib.Omega.{arith}
use native.Mathlib.Nat.{le_refl}
use Rattle.meaning.specs.Expr.{Expr, empty, event, choice, sequence, repeat, size}
use Rattle.meaning.specs.Reading.{Item, place, opening, closing, codes}
use Rattle.meaning.specs.Theory.Places.{Place, node_of, opens, closes, Step}
use Rattle.meaning.proofs.Expressions.Items.{codes-append}

-- the item is a mark of a node below n
abbrev pub Mark : ℕ → Item → Type 0
Mark n (place i c) = ⊥
Mark n (opening r) = r < n
Mark n (closing r) = r < n

-- every item is one
abbrev pub Marks : ℕ → List Item → Type 0
Marks n [] = Unit {0}
Marks n (a ∷ m) = Mark n a × Marks n m

-- marks have no codes
pub marks_codes : (n : ℕ) (m : List Item) → Marks n m → codes m ≡ []
marks_codes n [] h = refl
marks_codes n (place i c ∷ m) h = absurd h.0
marks_codes n (opening r ∷ m) h = marks_codes n m h.1
marks_codes n (closing r ∷ m) h = marks_codes n m h.1

-- so they add none to the items before them
pub codes_before_marks : (n : ℕ) (u m : List Item) → Marks n m → codes (u ++ m) ≡ codes u
codes_before_marks n u m h = codes-append u m ∙ ap {B = List ℕ} (λ w. codes u ++ w) (marks_codes n m h) ∙ append-nil (codes u)

-- nor to those behind them
pub codes_behind_marks : (n : ℕ) (m u : List Item) → Marks n m → codes (m ++ u) ≡ codes u
codes_behind_marks n m u h = codes-append m u ∙ ap {B = List ℕ} (λ w. w ++ codes u) (marks_codes n m h)

-- marks after marks
marks_append : (n : ℕ) (x y : List Item) → Marks n x → Marks n y → Marks n (x ++ y)
marks_append n [] y h g = g
marks_append n (a ∷ x) y h g = (h.0, marks_append n x y h.1 g)

-- marks below n and a closing of n are not marks below n and an event
pub marks_apart : (n i c : ℕ) (x m y z : List Item) → Marks n x → Marks n m → ¬ (x ++ (closing n ∷ y) ≡ m ++ (place i c ∷ z))
marks_apart n i c [] [] y z h g p = subst (Mark (suc n)) (head-eq_of_cons-eq p) (omega arith)
marks_apart n i c [] (b ∷ m) y z h g p = let l : n < n = subst⁻¹ (Mark n) (head-eq_of_cons-eq p) g.0 in omega arith
marks_apart n i c (a ∷ x) [] y z h g p = subst (Mark n) (head-eq_of_cons-eq p) h.0
marks_apart n i c (a ∷ x) (b ∷ m) y z h g p = marks_apart n i c x m y z h.1 g.1 (tail-eq_of_cons-eq p)

-- the node of a place is one of the part's
pub node_within : (s : ℕ) (e : Expr) (p : Place e) → (s ≤ node_of s e p) × (node_of s e p < s + size e)
node_within s empty p = absurd p
node_within s (event c) p = omega arith
node_within s (choice l r) (inl p) = let h = node_within s l p in omega arith
node_within s (choice l r) (inr p) = let h = node_within (s + size l) r p in omega arith
node_within s (sequence l r) (inl p) = let h = node_within s l p in omega arith
node_within s (sequence l r) (inr p) = let h = node_within (s + size l) r p in omega arith
node_within s (repeat b lower upper) p = let h = node_within s b p.0 in omega arith

-- a node of the left part is none of the right
pub left_not_right : (s : ℕ) (l r : Expr) (p : Place l) (q : Place r) → ¬ (node_of s l p ≡ node_of (s + size l) r q)
left_not_right s l r p q h =
    let a = node_within s l p in
    let b = node_within (s + size l) r q in
    omega arith

pub node_from : (s : ℕ) (e : Expr) (p : Place e) → s ≤ node_of s e p
node_from s e p = (node_within s e p).0

pub node_below : (s : ℕ) (e : Expr) (p : Place e) → node_of s e p < s + size e
node_below s e p = (node_within s e p).1

-- the openings on the way to a place are marks of the part
pub opens_marks : (n s : ℕ) (e : Expr) → s + size e ≤ n → (p : Place e) → Marks n (opens s e p)
opens_marks n s empty h p = elim p [ ]
opens_marks n s (event c) h p = tt
opens_marks n s (choice l r) h (inl p) = opens_marks n s l (omega arith) p
opens_marks n s (choice l r) h (inr p) = opens_marks n (s + size l) r (omega arith) p
opens_marks n s (sequence l r) h (inl p) = opens_marks n s l (omega arith) p
opens_marks n s (sequence l r) h (inr p) = opens_marks n (s + size l) r (omega arith) p
opens_marks n s (repeat b lower upper) h p = (omega arith, opens_marks n s b (omega arith) p.0)

-- so are the closings on the way from a place
pub closes_marks : (n s : ℕ) (e : Expr) → s + size e ≤ n → (p : Place e) → Marks n (closes s e p)
closes_marks n s empty h p = elim p [ ]
closes_marks n s (event c) h p = tt
closes_marks n s (choice l r) h (inl p) = closes_marks n s l (omega arith) p
closes_marks n s (choice l r) h (inr p) = closes_marks n (s + size l) r (omega arith) p
closes_marks n s (sequence l r) h (inl p) = closes_marks n s l (omega arith) p
closes_marks n s (sequence l r) h (inr p) = closes_marks n (s + size l) r (omega arith) p
closes_marks n s (repeat b lower upper) h p =
    marks_append n (closes s b p.0) (closing (s + size b) ∷ []) (closes_marks n s b (omega arith) p.0) (omega arith, tt)

-- and what a step passes
pub step_marks : (n s : ℕ) (e : Expr) → s + size e ≤ n → (p q : Place e) (m : List Item) → Step s e p q m → Marks n m
step_marks n s empty h p q m t = absurd t
step_marks n s (event c) h p q m t = absurd t
step_marks n s (choice l r) h (inl p) (inl q) m t = step_marks n s l (omega arith) p q m t
step_marks n s (choice l r) h (inl p) (inr q) m t = absurd t
step_marks n s (choice l r) h (inr p) (inl q) m t = absurd t
step_marks n s (choice l r) h (inr p) (inr q) m t = step_marks n (s + size l) r (omega arith) p q m t
step_marks n s (sequence l r) h (inl p) (inl q) m t = step_marks n s l (omega arith) p q m t
step_marks n s (sequence l r) h (inl p) (inr q) m t =
    subst⁻¹ (Marks n) t.2 (marks_append n (closes s l p) (opens (s + size l) r q) (closes_marks n s l (omega arith) p) (opens_marks n (s + size l) r (omega arith) q))
step_marks n s (sequence l r) h (inr p) (inl q) m t = absurd t
step_marks n s (sequence l r) h (inr p) (inr q) m t = step_marks n (s + size l) r (omega arith) p q m t
step_marks n s (repeat b lower upper) h p q m (inl t) = step_marks n s b (omega arith) p.0 q.0 m t.0
step_marks n s (repeat b lower upper) h p q m (inr t) =
    let r = s + size b in
    let opened : Marks n (closing r ∷ opening r ∷ opens s b q.0) = (omega arith, (omega arith, opens_marks n s b (omega arith) q.0)) in
    subst⁻¹ (Marks n) t.4 (marks_append n (closes s b p.0) (closing r ∷ opening r ∷ opens s b q.0) (closes_marks n s b (omega arith) p.0) opened)

-- so they hold no event
pub opens_no_event : (s : ℕ) (e : Expr) (p : Place e) → codes (opens s e p) ≡ []
opens_no_event s e p = marks_codes (s + size e) (opens s e p) (opens_marks (s + size e) s e (le_refl (s + size e)) p)

pub closes_no_event : (s : ℕ) (e : Expr) (p : Place e) → codes (closes s e p) ≡ []
closes_no_event s e p = marks_codes (s + size e) (closes s e p) (closes_marks (s + size e) s e (le_refl (s + size e)) p)

pub step_no_event : (s : ℕ) (e : Expr) (p q : Place e) (m : List Item) → Step s e p q m → codes m ≡ []
step_no_event s e p q m t = marks_codes (s + size e) m (step_marks (s + size e) s e (le_refl (s + size e)) p q m t)
