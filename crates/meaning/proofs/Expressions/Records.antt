-- The record's bytes determine the items of a reading: every item names a node of the expression, and an event's code follows
-- from its node.
use mathlib.Core.Path.{◌≡◌, refl, sym, ap, subst}
use mathlib.Core.Logic.{inl, inr}
use mathlib.Core.List.{List, [], ◌∷◌, ◌++◌, map, cons≢nil, head-eq_of_cons-eq, tail-eq_of_cons-eq}
use Prim.Native.Nat.{ℕ, ◌+◌, ◌/◌, ◌%◌, ◌≤◌, ◌<◌}
use native.Mathlib.Omega.{arith}
use Rattle.meaning.specs.Expr.{Expr, empty, event, choice, sequence, repeat, size, Part}
use Rattle.meaning.specs.Lists.{nil, one, left, right, cat, Power, none, more, times}
use Rattle.meaning.specs.Reading.{Item, place, opening, closing, Block, block, Reading}
use Rattle.meaning.specs.Record.{item_number, record_bytes}
use Rattle.meaning.specs.Theory.Counts.{Narrow}
use Rattle.meaning.proofs.General.Twos.{narrow_unique}
use Rattle.meaning.proofs.Expressions.Parts.{part_within, part_unique}

-- ---- every item of a reading names a node of the part

-- the item names a node of the part, an event the node of that event
abbrev pub Names : ℕ → Expr → Item → Type 0
Names s e (place i c) = Part s e i (event c)
Names s e (opening r) = r < s + size e
Names s e (closing r) = r < s + size e

-- every item does
abbrev pub AllName : ℕ → Expr → List Item → Type 0
AllName s e [] = Unit {0}
AllName s e (a ∷ x) = Names s e a × AllName s e x

all_append : (s : ℕ) (e : Expr) (x y : List Item) → AllName s e x → AllName s e y → AllName s e (x ++ y)
all_append s e [] y a b = b
all_append s e (i ∷ x) y a b = (a.0, all_append s e x y a.1 b)

-- what names a node of a child names a node of the part
all_wider : (s t : ℕ) (d e : Expr) → s + size d ≤ t + size e → ((i : ℕ) (p : Expr) → Part s d i p → Part t e i p)
    → (x : List Item) → AllName s d x → AllName t e x
all_wider s t d e l f [] a = tt
all_wider s t d e l f (place i c ∷ x) a = (f i (event c) a.0, all_wider s t d e l f x a.1)
all_wider s t d e l f (opening r ∷ x) a = (omega (arith, a.0), all_wider s t d e l f x a.1)
all_wider s t d e l f (closing r ∷ x) a = (omega (arith, a.0), all_wider s t d e l f x a.1)

blocks_name : (s : ℕ) (e : Expr) {P : List Item → Type 0} (r : ℕ) → r < s + size e → ((x : List Item) → P x → AllName s e x)
    → (j : ℕ) (x : List Item) → Power (Block P r) j x → AllName s e x
blocks_name s e r l f j x none = tt
blocks_name s e r l f j x (more i u v (block y k p) q) =
    all_append s e (opening r ∷ (y ++ (closing r ∷ []))) v (l, all_append s e y (closing r ∷ []) (f y p) (l, tt)) (blocks_name s e r l f i v q)

pub reading_names : (s : ℕ) (e : Expr) (x : List Item) → Reading s e x → AllName s e x
reading_names s empty x nil = tt
reading_names s (event c) x one = ((refl, refl), tt)
reading_names s (choice l r) x (left a) = all_wider s s l (choice l r) (omega arith) (λ i p h. inl h) x (reading_names s l x a)
reading_names s (choice l r) x (right a) =
    all_wider (s + size l) s r (choice l r) (omega arith) (λ i p h. inr (inl h)) x (reading_names (s + size l) r x a)
reading_names s (sequence l r) x (cat u v a b) =
    all_append s (sequence l r) u v (all_wider s s l (sequence l r) (omega arith) (λ i p h. inl h) u (reading_names s l u a))
    (all_wider (s + size l) s r (sequence l r) (omega arith) (λ i p h. inr (inl h)) v (reading_names (s + size l) r v b))
reading_names s (repeat b lower upper) x (times j lo up p) =
    let whole = repeat b lower upper in
    blocks_name s whole (s + size b) (omega arith)
    (λ y a. all_wider s s b whole (omega arith) (λ i q h. inl h) y (reading_names s b y a)) j x p

-- ---- bytes to items

-- the record of two lists of items, one after the other
pub record_append : (x y : List Item) → record_bytes (x ++ y) ≡ record_bytes x ++ record_bytes y
record_append [] y = refl
record_append (a ∷ x) y = ap {B = List ℕ} (λ z. item_number a % 256 ∷ item_number a / 256 % 256 ∷ z) (record_append x y)

-- two items of one expression with the same number are the same
item_unique : (e : Expr) → size e ≤ 512 → (a b : Item) → Names 0 e a → Names 0 e b → item_number a ≡ item_number b → a ≡ b
item_unique e l (place i c) (place j d) x y h =
    let same : i ≡ j = omega arith in
    let code = part_unique 0 e j (event c) (event d) (subst (λ (n : ℕ). Part 0 e n (event c)) same x) y in
    cc
item_unique e l (place i c) (opening q) x y h = absurd (omega (arith, part_within 0 e i (event c) x))
item_unique e l (place i c) (closing q) x y h = absurd (omega (arith, part_within 0 e i (event c) x))
item_unique e l (opening r) (place j d) x y h = absurd (omega (arith, part_within 0 e j (event d) y))
item_unique e l (opening r) (opening q) x y h = let same : r ≡ q = omega arith in cc
item_unique e l (opening r) (closing q) x y h = absurd (omega arith)
item_unique e l (closing r) (place j d) x y h = absurd (omega (arith, part_within 0 e j (event d) y))
item_unique e l (closing r) (opening q) x y h = absurd (omega arith)
item_unique e l (closing r) (closing q) x y h = let same : r ≡ q = omega arith in cc

-- every item's number fits in two bytes
pub names_narrow : (e : Expr) → size e ≤ 512 → (x : List Item) → AllName 0 e x → Narrow (map item_number x)
names_narrow e l [] a = tt
names_narrow e l (place i c ∷ x) a = (omega (arith, part_within 0 e i (event c) a.0), names_narrow e l x a.1)
names_narrow e l (opening r ∷ x) a = (omega (arith, a.0), names_narrow e l x a.1)
names_narrow e l (closing r ∷ x) a = (omega (arith, a.0), names_narrow e l x a.1)

names_unique : (e : Expr) → size e ≤ 512 → (x y : List Item) → AllName 0 e x → AllName 0 e y → map item_number x ≡ map item_number y → x ≡ y
names_unique e l [] [] a b h = refl
names_unique e l [] (j ∷ y) a b h = absurd (cons≢nil (sym h))
names_unique e l (i ∷ x) [] a b h = absurd (cons≢nil h)
names_unique e l (i ∷ x) (j ∷ y) a b h =
    let head = item_unique e l i j a.0 b.0 (head-eq_of_cons-eq h) in
    let rest = names_unique e l x y a.1 b.1 (tail-eq_of_cons-eq h) in
    λ k. head k ∷ rest k

-- for readings of one file's expression, the record's bytes determine the items
pub record_determines_items : (e : Expr) → size e ≤ 512 → (x y : List Item) → Reading 0 e x → Reading 0 e y → record_bytes x ≡ record_bytes y → x ≡ y
record_determines_items e l x y a b h =
    let here = reading_names 0 e x a in
    let there = reading_names 0 e y b in
    names_unique e l x y here there (narrow_unique (map item_number x) (map item_number y) (names_narrow e l x here) (names_narrow e l y there) h)

-- an event's code follows from its node
pub code_of_node : (e : Expr) (i c d : ℕ) → Part 0 e i (event c) → Part 0 e i (event d) → c ≡ d
code_of_node e i c d a b = let same = part_unique 0 e i (event c) (event d) a b in cc
