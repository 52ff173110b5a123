-- How readings begin: the first item names a node of the part, a part has the empty reading exactly if it has the empty word,
-- a reading that is not empty has an event, and the first is in first of the part. Assumes nothing.
use mathlib.Core.Path.{◌≡◌, refl, sym, ap, subst, ◌∙◌}
use mathlib.Core.Logic.{◌⊎◌, inl, inr, ⊎_elim}
use mathlib.Core.Bool.{So, false≢true, and-eq-true_iff}
use mathlib.Core.List.{List, [], ◌∷◌, ◌++◌, append-eq-nil_iff, cons≢nil, head-eq_of_cons-eq}
use Prim.Native.Nat.{ℕ, ◌+◌, ◌≤◌}
use native.Mathlib.Omega.{arith}
use lib.ListN.{length}
use Rattle.meaning.specs.Expr.{Expr, empty, event, choice, sequence, repeat, size, root, Upper, upto, endless, Within}
use Rattle.meaning.specs.Lists.{nil, one, left, right, Cat, cat, Power, none, more, Times, times}
use Rattle.meaning.specs.Normal.{nullable}
use Rattle.meaning.specs.Reading.{Item, place, opening, closing, Reading, codes, Block, block}
use Rattle.meaning.specs.Record.{item_node}
use Rattle.meaning.specs.Sets.{First}
use Rattle.meaning.proofs.General.Facts.{so_or, low_zero, zero_low}
use Rattle.meaning.proofs.Expressions.Parts.{root-size}
use Rattle.meaning.proofs.Expressions.Items.{codes_block, events_append}

-- ---- the first item

-- the first item, if there is one, names one of the nodes s to i
abbrev pub Heads : ℕ → ℕ → List Item → Type 0
Heads s i [] = Unit {0}
Heads s i (a ∷ x) = (s ≤ item_node a) × (item_node a ≤ i)

heads_wider : (s t i j : ℕ) (x : List Item) → t ≤ s → i ≤ j → Heads s i x → Heads t j x
heads_wider s t i j [] a b h = tt
heads_wider s t i j (y ∷ x) a b h = omega arith

heads_append : (s i : ℕ) (x y : List Item) → Heads s i x → Heads s i y → Heads s i (x ++ y)
heads_append s i [] y a b = b
heads_append s i (z ∷ x) y a b = a

heads_blocks : (s r : ℕ) {P : List Item → Type 0} (j : ℕ) (x : List Item) → s ≤ r → Power (Block P r) j x → Heads s r x
heads_blocks s r j x h none = tt
heads_blocks s r j x h (more i u v (block y k p) q) = omega arith

pub reading_heads : (s : ℕ) (e : Expr) (x : List Item) → Reading s e x → Heads s (root s e) x
reading_heads s empty x nil = tt
reading_heads s (event c) x one = omega arith
reading_heads s (choice l r) x (left a) =
    heads_wider s s (root s l) (root s (choice l r)) x (omega arith) (omega (arith, root-size s l)) (reading_heads s l x a)
reading_heads s (choice l r) x (right a) =
    let t = s + size l in
    heads_wider t s (root t r) (root s (choice l r)) x (omega arith) (omega (arith, root-size t r)) (reading_heads t r x a)
reading_heads s (sequence l r) x (cat u v a b) =
    let t = s + size l in
    heads_append s (root s (sequence l r)) u v
    (heads_wider s s (root s l) (root s (sequence l r)) u (omega arith) (omega (arith, root-size s l)) (reading_heads s l u a))
    (heads_wider t s (root t r) (root s (sequence l r)) v (omega arith) (omega (arith, root-size t r)) (reading_heads t r v b))
reading_heads s (repeat b lower upper) x (times j lo up p) = heads_blocks s (s + size b) j x (omega arith) p

-- ---- the empty reading

within_none : (upper : Upper) → Within 0 upper
within_none (upto n) = omega arith
within_none endless = tt

pub empty_reading : (s : ℕ) (e : Expr) → So (nullable e) → Reading s e []
empty_reading s empty h = nil
empty_reading s (event c) h = absurd (false≢true h)
empty_reading s (choice l r) h =
    ⊎_elim (λ a. left (empty_reading s l a)) (λ a. right (empty_reading (s + size l) r a)) ((so_or (nullable l) (nullable r)).0 h)
empty_reading s (sequence l r) h =
    let b = (and-eq-true_iff (nullable l) (nullable r)).0 h in
    cat [] [] (empty_reading s l b.0) (empty_reading (s + size l) r b.1)
empty_reading s (repeat b lower upper) h = times 0 (zero_low (nullable b) lower h) (within_none upper) none

cat_empty : {P Q : List Item → Type 0} {x : List Item} → Cat P Q x → x ≡ [] → P [] × Q []
cat_empty {P} {Q} (cat u v p q) e = let k = (append-eq-nil_iff {p = u} {q = v}).0 e in (subst P k.0 p, subst Q k.1 q)

blocks_empty : {P : List Item → Type 0} {r j : ℕ} {x : List Item} → Power (Block P r) j x → x ≡ [] → j ≤ 0
blocks_empty none e = omega arith
blocks_empty (more i u v (block y k p) q) e = let z : ◌≡◌ {A = ℕ} 0 1 = cc in absurd (omega arith)

times_empty : {P : List Item → Type 0} {r lo : ℕ} {up : Upper} {x : List Item} → Times (Block P r) lo up x → x ≡ [] → lo ≤ 0
times_empty (times j l u p) e = let k = blocks_empty p e in omega arith

pub reading_empty : (s : ℕ) (e : Expr) → Reading s e [] → So (nullable e)
reading_empty s empty x = refl
reading_empty s (event c) x = elim x [ ]
reading_empty s (choice l r) (left a) = (so_or (nullable l) (nullable r)).1 (inl (reading_empty s l a))
reading_empty s (choice l r) (right a) = (so_or (nullable l) (nullable r)).1 (inr (reading_empty (s + size l) r a))
reading_empty s (sequence l r) x =
    let k = cat_empty x refl in
    (and-eq-true_iff (nullable l) (nullable r)).1 (reading_empty s l k.0, reading_empty (s + size l) r k.1)
reading_empty s (repeat b lower upper) x = low_zero (nullable b) lower (times_empty x refl)

-- ---- a reading that is not empty

append_long : (u v : List Item) → 1 ≤ length (u ++ v) → (1 ≤ length u → 1 ≤ length (codes u)) → (1 ≤ length v → 1 ≤ length (codes v))
    → 1 ≤ length (codes (u ++ v))
append_long [] v h a b = b h
append_long (y ∷ u) v h a b = let k = a (omega arith) in omega (arith, events_append (y ∷ u) v)

blocks_long : {P : List Item → Type 0} {r j : ℕ} {x : List Item} → Power (Block P r) j x → 1 ≤ length x → 1 ≤ length (codes x)
blocks_long none h = absurd (omega arith)
blocks_long {r = r} (more i u v (block y k p) q) h =
    let z = opening r ∷ (y ++ (closing r ∷ [])) in
    omega (arith, events_append z v, events_append y (closing r ∷ []))

pub reading_long : (s : ℕ) (e : Expr) (x : List Item) → Reading s e x → 1 ≤ length x → 1 ≤ length (codes x)
reading_long s empty x nil h = absurd (omega arith)
reading_long s (event c) x one h = omega arith
reading_long s (choice l r) x (left a) h = reading_long s l x a h
reading_long s (choice l r) x (right a) h = reading_long (s + size l) r x a h
reading_long s (sequence l r) x (cat u v a b) h = append_long u v h (reading_long s l u a) (reading_long (s + size l) r v b)
reading_long s (repeat b lower upper) x (times j lo up p) h = blocks_long p h

-- so one with no event is empty, and its part has the empty word
pub no_codes : (s : ℕ) (e : Expr) (x : List Item) → Reading s e x → codes x ≡ [] → x ≡ []
no_codes s e [] p h = refl
no_codes s e (a ∷ x) p h =
    let n : length (codes (a ∷ x)) ≡ 0 = ap length h in
    absurd (omega (arith, reading_long s e (a ∷ x) p (omega arith)))

pub no_codes_null : (s : ℕ) (e : Expr) (x : List Item) → Reading s e x → codes x ≡ [] → So (nullable e)
no_codes_null s e x p h = reading_empty s e (subst (Reading s e) (no_codes s e x p h) p)

-- ---- the first code

-- the first code of two lists is that of the first, or that of the second where the first has none
codes_begin : (x y : List Item) (c : ℕ) (v : List ℕ) → codes (x ++ y) ≡ c ∷ v → ((u : List ℕ) × (codes x ≡ c ∷ u)) ⊎ ((codes x ≡ []) × (codes y ≡ c ∷ v))
codes_begin [] y c v e = inr (refl, e)
codes_begin (place i d ∷ x) y c v e = inl (codes x, ap {B = List ℕ} (λ k. k ∷ codes x) (head-eq_of_cons-eq e))
codes_begin (opening r ∷ x) y c v e = codes_begin x y c v e
codes_begin (closing r ∷ x) y c v e = codes_begin x y c v e

-- that of blocks is that of a body
pub blocks_first : {P : List Item → Type 0} {r j : ℕ} {x : List Item} (F : ℕ → Type 0)
    → ((y : List Item) (c : ℕ) (v : List ℕ) → P y → codes y ≡ c ∷ v → F c) → Power (Block P r) j x → (c : ℕ) (v : List ℕ) → codes x ≡ c ∷ v → F c
blocks_first F f none c v e = absurd (cons≢nil (sym e))
blocks_first {r = r} F f (more i u z (block y k p) q) c v e =
    ⊎_elim (λ h. f y c h.0 p (sym (codes_block r y) ∙ h.1))
    (λ h. let n : length (codes y) ≡ 0 = ap length (sym (codes_block r y) ∙ h.0) in absurd (omega arith))
    (codes_begin (opening r ∷ (y ++ (closing r ∷ []))) z c v e)

pub reading_first : (s : ℕ) (e : Expr) (x : List Item) (c : ℕ) (v : List ℕ) → Reading s e x → codes x ≡ c ∷ v → First e c
reading_first s empty x c v nil e = absurd (cons≢nil (sym e))
reading_first s (event d) x c v one e = sym (head-eq_of_cons-eq e)
reading_first s (choice l r) x c v (left a) e = inl (reading_first s l x c v a e)
reading_first s (choice l r) x c v (right a) e = inr (reading_first (s + size l) r x c v a e)
reading_first s (sequence l r) x c v (cat y z a b) e =
    ⊎_elim (λ h. inl (reading_first s l y c h.0 a h.1))
    (λ h. inr (no_codes_null s l y a h.0, reading_first (s + size l) r z c v b h.1)) (codes_begin y z c v e)
reading_first s (repeat b lower upper) x c v (times j lo up p) e = blocks_first (First b) (reading_first s b) p c v e
