-- The parts of an expression: their nodes, that a node has one part, and the parts of a part.
use mathlib.Core.Path.{◌≡◌, sym, ◌∙◌, subst, subst⁻¹}
use mathlib.Core.Logic.{◌⊎◌, inl, inr}
use Prim.Native.Nat.{ℕ, suc, ◌+◌, ◌≤◌, ◌<◌}
use native.Mathlib.Omega.{arith}
use Rattle.meaning.specs.Expr.{Expr, empty, event, choice, sequence, repeat, size, root, Part, Bounded}

-- a part's own node is its last
pub root-size : (s : ℕ) (e : Expr) → suc (root s e) ≡ s + size e
root-size s empty = omega arith
root-size s (event c) = omega arith
root-size s (choice l r) = omega arith
root-size s (sequence l r) = omega arith
root-size s (repeat b lower upper) = omega arith

-- the node of a part is one of the whole's
pub part_within : (s : ℕ) (e : Expr) (i : ℕ) (p : Expr) → Part s e i p → (s ≤ i) × (i < s + size e)
part_within s empty i p h = omega arith
part_within s (event c) i p h = omega arith
part_within s (choice l r) i p (inl h) = omega (arith, part_within s l i p h)
part_within s (choice l r) i p (inr (inl h)) = omega (arith, part_within (s + size l) r i p h)
part_within s (choice l r) i p (inr (inr h)) = omega arith
part_within s (sequence l r) i p (inl h) = omega (arith, part_within s l i p h)
part_within s (sequence l r) i p (inr (inl h)) = omega (arith, part_within (s + size l) r i p h)
part_within s (sequence l r) i p (inr (inr h)) = omega arith
part_within s (repeat b lower upper) i p (inl h) = omega (arith, part_within s b i p h)
part_within s (repeat b lower upper) i p (inr h) = omega arith

-- the parts of two children and of the node above them do not meet
pair_part_unique : (s l r : ℕ) (e : Expr) {A B : ℕ → Expr → Type 0} → ((i : ℕ) (p : Expr) → A i p → (s ≤ i) × (i < s + l))
    → ((i : ℕ) (p : Expr) → B i p → (s + l ≤ i) × (i < s + l + r)) → (i : ℕ) (p q : Expr) → (A i p → A i q → p ≡ q) → (B i p → B i q → p ≡ q)
    → A i p ⊎ B i p ⊎ ((i ≡ s + l + r) × (p ≡ e)) → A i q ⊎ B i q ⊎ ((i ≡ s + l + r) × (q ≡ e)) → p ≡ q
pair_part_unique s l r e a b i p q f g (inl x) (inl y) = f x y
pair_part_unique s l r e a b i p q f g (inl x) (inr (inl y)) = absurd (omega (arith, a i p x, b i q y))
pair_part_unique s l r e a b i p q f g (inl x) (inr (inr y)) = absurd (omega (arith, a i p x))
pair_part_unique s l r e a b i p q f g (inr (inl x)) (inl y) = absurd (omega (arith, b i p x, a i q y))
pair_part_unique s l r e a b i p q f g (inr (inl x)) (inr (inl y)) = g x y
pair_part_unique s l r e a b i p q f g (inr (inl x)) (inr (inr y)) = absurd (omega (arith, b i p x))
pair_part_unique s l r e a b i p q f g (inr (inr x)) (inl y) = absurd (omega (arith, a i q y))
pair_part_unique s l r e a b i p q f g (inr (inr x)) (inr (inl y)) = absurd (omega (arith, b i q y))
pair_part_unique s l r e a b i p q f g (inr (inr x)) (inr (inr y)) = x.1 ∙ sym y.1

-- a node has one part
pub part_unique : (s : ℕ) (e : Expr) (i : ℕ) (p q : Expr) → Part s e i p → Part s e i q → p ≡ q
part_unique s empty i p q a b = a.1 ∙ sym b.1
part_unique s (event c) i p q a b = a.1 ∙ sym b.1
part_unique s (choice l r) i p q a b =
    pair_part_unique s (size l) (size r) (choice l r) {A = Part s l} {B = Part (s + size l) r} (part_within s l) (part_within (s + size l) r) i p q
    (part_unique s l i p q) (part_unique (s + size l) r i p q) a b
part_unique s (sequence l r) i p q a b =
    pair_part_unique s (size l) (size r) (sequence l r) {A = Part s l} {B = Part (s + size l) r} (part_within s l) (part_within (s + size l) r) i p q
    (part_unique s l i p q) (part_unique (s + size l) r i p q) a b
part_unique s (repeat b lower upper) i p q (inl x) (inl y) = part_unique s b i p q x y
part_unique s (repeat b lower upper) i p q (inl x) (inr y) = absurd (omega (arith, part_within s b i p x))
part_unique s (repeat b lower upper) i p q (inr x) (inl y) = absurd (omega (arith, part_within s b i q y))
part_unique s (repeat b lower upper) i p q (inr x) (inr y) = x.1 ∙ sym y.1

-- where the part with node i begins: its parts are parts of the whole, at nodes up to i
pub record Inner (s : ℕ) (e : Expr) (i : ℕ) (p : Expr) : Type 0 where
  pub start : ℕ
  pub parts : (j : ℕ) (q : Expr) → Part start p j q → Part s e j q
  pub up_to : (j : ℕ) (q : Expr) → Part start p j q → j ≤ i

-- a wider whole
wider : {s t : ℕ} {e f : Expr} {i : ℕ} {p : Expr} → ((j : ℕ) (q : Expr) → Part s e j q → Part t f j q) → Inner s e i p → Inner t f i p
wider f w = record { start = w.start; parts = λ j q x. f j q (w.parts j q x); up_to = w.up_to }

-- the whole in itself
itself : (s : ℕ) (e : Expr) (i : ℕ) (p : Expr) → i ≡ root s e → p ≡ e → Inner s e i p
itself s e i p h g = record {
  start = s;
  parts = λ j q. subst (λ f. Part s f j q) g;
  up_to = λ j q w.
      let a = part_within s e j q (subst (λ f. Part s f j q) g w) in
      let b = root-size s e in
      omega arith;
}

-- every part has its place in the whole
pub part_of_part : (s : ℕ) (e : Expr) (i : ℕ) (p : Expr) → Part s e i p → Inner s e i p
part_of_part s empty i p w = itself s empty i p w.0 w.1
part_of_part s (event c) i p w = itself s (event c) i p w.0 w.1
part_of_part s (choice l r) i p (inl w) = wider (λ j q. inl) (part_of_part s l i p w)
part_of_part s (choice l r) i p (inr (inl w)) = wider (λ j q x. inr (inl x)) (part_of_part (s + size l) r i p w)
part_of_part s (choice l r) i p (inr (inr w)) = itself s (choice l r) i p w.0 w.1
part_of_part s (sequence l r) i p (inl w) = wider (λ j q. inl) (part_of_part s l i p w)
part_of_part s (sequence l r) i p (inr (inl w)) = wider (λ j q x. inr (inl x)) (part_of_part (s + size l) r i p w)
part_of_part s (sequence l r) i p (inr (inr w)) = itself s (sequence l r) i p w.0 w.1
part_of_part s (repeat b lower upper) i p (inl w) = wider (λ j q. inl) (part_of_part s b i p w)
part_of_part s (repeat b lower upper) i p (inr w) = itself s (repeat b lower upper) i p w.0 w.1

-- a part of a bounded expression is bounded
pub part_bounded : (s : ℕ) (e : Expr) → Bounded e → (i : ℕ) (p : Expr) → Part s e i p → Bounded p
part_bounded s empty h i p w = subst⁻¹ Bounded w.1 h
part_bounded s (event c) h i p w = subst⁻¹ Bounded w.1 h
part_bounded s (choice l r) h i p (inl w) = part_bounded s l h.0 i p w
part_bounded s (choice l r) h i p (inr (inl w)) = part_bounded (s + size l) r h.1 i p w
part_bounded s (choice l r) h i p (inr (inr w)) = subst⁻¹ Bounded w.1 h
part_bounded s (sequence l r) h i p (inl w) = part_bounded s l h.0 i p w
part_bounded s (sequence l r) h i p (inr (inl w)) = part_bounded (s + size l) r h.1 i p w
part_bounded s (sequence l r) h i p (inr (inr w)) = subst⁻¹ Bounded w.1 h
part_bounded s (repeat b lower upper) h i p (inl w) = part_bounded s b h.0 i p w
part_bounded s (repeat b lower upper) h i p (inr w) = subst⁻¹ Bounded w.1 h
