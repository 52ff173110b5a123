-- What the count of begun blocks comes to: a reading leaves no block begun, and before a place the count is the number that the place holds.
-- So the state after the items before a place is made from the place alone.
use mathlib.Core.Path.{◌≡◌, refl, sym, ap, ap₂, ◌∙◌, subst}
use mathlib.Core.Logic.{◌⊎◌, inl, inr, ⊎_elim, ⊎_map}
use mathlib.Core.Bool.{Bool, true, false, cond}
use mathlib.Core.List.{List, [], ◌∷◌, ◌++◌, append_assoc, append-nil}
use Prim.Native.Nat.{ℕ, zero, suc, ◌+◌, ◌≤◌, ◌<◌}
use native.Mathlib.Omega.{arith}
use lib.Dec.{eqb}
use Rattle.meaning.specs.Expr.{Expr, empty, event, choice, sequence, repeat, size, Upper, upto, endless}
use Rattle.meaning.specs.Lists.{nil, One, one, left, right, Cat, cat, Power, none, more, times}
use Rattle.meaning.specs.Normal.{nullable, low}
use Rattle.meaning.specs.Reading.{Item, place, opening, closing, Block, block, Reading}
use Rattle.meaning.specs.State.{opens_next, begun, stop, counters, reached, state_of}
use Rattle.meaning.specs.Theory.Places.{Place, node_of, item_of, Before}
use Rattle.meaning.specs.Theory.Counts.{zeros, place_counts, place_state}
use Rattle.meaning.proofs.Places.Before.{before_ends}
use Rattle.meaning.proofs.General.Facts.{eqb_same, eqb_less, eqb_more, none_below_or_none_from, same_or_other}

-- no opening or closing is of node i
abbrev Without : ℕ → List Item → Type 0
Without i [] = Unit {0}
Without i (place n c ∷ x) = Without i x
Without i (opening q ∷ x) = (eqb q i ≡ false) × Without i x
Without i (closing q ∷ x) = (eqb q i ≡ false) × Without i x

-- so in two lists, one after the other
without_append : (i : ℕ) (x y : List Item) → Without i x → Without i y → Without i (x ++ y)
without_append i [] y h k = k
without_append i (place n c ∷ x) y h k = without_append i x y h k
without_append i (opening q ∷ x) y h k = (h.0, without_append i x y h.1 k)
without_append i (closing q ∷ x) y h k = (h.0, without_append i x y h.1 k)

-- no list of the set holds a mark of node i
abbrev Lacks : ℕ → (List Item → Type 0) → Type 0
Lacks i P = (x : List Item) → P x → Without i x

-- two such sets, one after the other; blocks and an opening of another repeat
cat_lacks : (i : ℕ) {P Q : List Item → Type 0} → Lacks i P → Lacks i Q → Lacks i (Cat P Q)
cat_lacks i f g x (cat u v a b) = without_append i u v (f u a) (g v b)

blocks_lack : (i q : ℕ) {P : List Item → Type 0} → eqb q i ≡ false → Lacks i P → (j : ℕ) → Lacks i (Power (Block P q) j)
blocks_lack i q m f j x none = tt
blocks_lack i q m f j x (more n u v (block w h p) k) =
    without_append i u v (m, without_append i w (closing q ∷ []) (f w p) (m, tt)) (blocks_lack i q m f n v k)

opening_lacks : (i q : ℕ) → eqb q i ≡ false → Lacks i (One (opening q))
opening_lacks i q m x one = (m, tt)

-- no node of the part is node i
abbrev Apart : ℕ → ℕ → Expr → Type 0
Apart i s e = (q : ℕ) → s ≤ q → q < s + size e → eqb q i ≡ false

-- a reading holds marks of the part's nodes alone
reading_lacks : (i s : ℕ) (e : Expr) → Apart i s e → Lacks i (Reading s e)
reading_lacks i s empty m x nil = tt
reading_lacks i s (event c) m x one = tt
reading_lacks i s (choice l r) m x (left k) = reading_lacks i s l (λ q a b. m q a (omega arith)) x k
reading_lacks i s (choice l r) m x (right k) = reading_lacks i (s + size l) r (λ q a b. m q (omega arith) (omega arith)) x k
reading_lacks i s (sequence l r) m x k =
    cat_lacks i (reading_lacks i s l (λ q a b. m q a (omega arith))) (reading_lacks i (s + size l) r (λ q a b. m q (omega arith) (omega arith))) x k
reading_lacks i s (repeat b lower upper) m x (times j lo up k) =
    blocks_lack i (s + size b) (m (s + size b) (omega arith) (omega arith)) (reading_lacks i s b (λ q a c. m q a (omega arith))) j x k

-- and so do the items before a place
before_lacks : (i s : ℕ) (e : Expr) → Apart i s e → (p : Place e) → Lacks i (Before s e p)
before_lacks i s empty m p u b = absurd b
before_lacks i s (event c) m p u one = tt
before_lacks i s (choice l r) m (inl p) u b = before_lacks i s l (λ q a c. m q a (omega arith)) p u b
before_lacks i s (choice l r) m (inr p) u b = before_lacks i (s + size l) r (λ q a c. m q (omega arith) (omega arith)) p u b
before_lacks i s (sequence l r) m (inl p) u b = before_lacks i s l (λ q a c. m q a (omega arith)) p u b
before_lacks i s (sequence l r) m (inr p) u b =
    cat_lacks i (reading_lacks i s l (λ q a c. m q a (omega arith))) (before_lacks i (s + size l) r (λ q a c. m q (omega arith) (omega arith)) p) u b
before_lacks i s (repeat b lower upper) m p u k =
    let own = m (s + size b) (omega arith) (omega arith) in
    let inside : Apart i s b = λ q a c. m q a (omega arith) in
    cat_lacks i (blocks_lack i (s + size b) own (reading_lacks i s b inside) p.1)
    (cat_lacks i (opening_lacks i (s + size b) own) (before_lacks i s b inside p.0)) u k

-- items without a mark of node i change nothing for it
without_begun : (i : ℕ) (x y : List Item) (k : ℕ) → Without i x → begun i (x ++ y) k ≡ begun i y k
without_begun i [] y k h = refl
without_begun i (place n c ∷ x) y k h = without_begun i x y k h
without_begun i (opening q ∷ x) y k h = ap (λ (b : Bool). begun i (x ++ y) (cond b (suc k) k)) h.0 ∙ without_begun i x y k h.1
without_begun i (closing q ∷ x) y k h =
    ap (λ (b : Bool). begun i (x ++ y) (cond b (cond (opens_next i (x ++ y)) k 0) k)) h.0 ∙ without_begun i x y k h.1

-- nor is an opening of it next
without_opens : (i : ℕ) (x y : List Item) → Without i x → opens_next i y ≡ false → opens_next i (x ++ y) ≡ false
without_opens i [] y h o = o
without_opens i (place n c ∷ x) y h o = refl
without_opens i (opening q ∷ x) y h o = h.0
without_opens i (closing q ∷ x) y h o = refl

-- no block of node i is left begun by a list of the set, where no opening of i follows
abbrev Leaves : ℕ → (List Item → Type 0) → Type 0
Leaves i P = (x y : List Item) → P x → opens_next i y ≡ false → begun i (x ++ y) 0 ≡ begun i y 0

-- what a list of the first set leaves, with one of the second behind it, where one of the two sets lacks node i
first_leaves : (i : ℕ) {P Q : List Item → Type 0} → Leaves i P → Lacks i P ⊎ Lacks i Q
    → (x v y : List Item) → P x → Q v → opens_next i y ≡ false → begun i (x ++ (v ++ y)) 0 ≡ begun i (v ++ y) 0
first_leaves i f (inl g) x v y p q o = without_begun i x (v ++ y) 0 (g x p)
first_leaves i f (inr g) x v y p q o = f x (v ++ y) p (without_opens i v y (g v q) o)

-- so is one set after another, where one of the two lacks node i
cat_leaves : (i : ℕ) {P Q : List Item → Type 0} → Leaves i P → Leaves i Q → Lacks i P ⊎ Lacks i Q → Leaves i (Cat P Q)
cat_leaves i f g h x y (cat u v p q) o =
    ap (λ (w : List Item). begun i w 0) (append_assoc u v y) ∙ first_leaves i f h u v y p q o ∙ g v y q o

-- a block with what follows, by its closing
block_append : (q : ℕ) (w v y : List Item) → w ++ (closing q ∷ []) ++ v ++ y ≡ w ++ (closing q ∷ (v ++ y))
block_append q w v y = append_assoc (w ++ (closing q ∷ [])) v y ∙ append_assoc w (closing q ∷ []) (v ++ y)

-- blocks of another repeat leave it as it was
others_leave : (i q : ℕ) {P : List Item → Type 0} → eqb q i ≡ false → Leaves i P
    → (j : ℕ) (x y : List Item) → Power (Block P q) j x → begun i (x ++ y) 0 ≡ begun i y 0
others_leave i q m f j x y none = refl
others_leave i q m f j x y (more n u v (block w h p) k) =
    ap (λ (b : Bool). begun i (w ++ (closing q ∷ []) ++ v ++ y) (cond b 1 0)) m
    ∙ ap (λ (t : List Item). begun i t 0) (block_append q w v y)
    ∙ f w (closing q ∷ (v ++ y)) p refl
    ∙ ap (λ (b : Bool). begun i (v ++ y) (cond b (cond (opens_next i (v ++ y)) 0 0) 0)) m
    ∙ others_leave i q m f n v y k

-- a block of repeat q is one more, and its end leaves the repeat where no opening follows
own_block : (q : ℕ) (w y : List Item) (k : ℕ) → Without q w → begun q (opening q ∷ (w ++ (closing q ∷ y))) k ≡ begun q y (cond (opens_next q y) (suc k) 0)
own_block q w y k h =
    ap (λ (b : Bool). begun q (w ++ (closing q ∷ y)) (cond b (suc k) k)) (eqb_same q)
    ∙ without_begun q w (closing q ∷ y) (suc k) h
    ∙ ap (λ (b : Bool). begun q y (cond b (cond (opens_next q y) (suc k) 0) (suc k))) (eqb_same q)

-- whether an opening of q comes next, where j blocks of q stand before what comes
abbrev opens_after : Bool → ℕ → Bool
opens_after b zero = b
opens_after b (suc j) = true

-- after blocks, or none, comes what comes
blocks_open : (q : ℕ) {P : List Item → Type 0} (j : ℕ) (x y : List Item) → Power (Block P q) j x → opens_next q (x ++ y) ≡ opens_after (opens_next q y) j
blocks_open q j x y none = refl
blocks_open q j x y (more n u v (block w h p) k) = eqb_same q

-- the blocks begun after j whole blocks, k begun before them, and whether one more opens
abbrev begun_after : Bool → ℕ → ℕ → ℕ
begun_after b zero k = k
begun_after b (suc j) k = cond b (k + suc j) 0

-- one block, then j
begun_after_one : (b : Bool) (j k : ℕ) → begun_after b j (cond (opens_after b j) (suc k) 0) ≡ begun_after b (suc j) k
begun_after_one true zero k = omega arith
begun_after_one false zero k = refl
begun_after_one b (suc j) k = ap (λ (n : ℕ). cond b n 0) (omega arith)

-- from none begun: none where the repeat is left, all where one more opens
begun_after_none : (j : ℕ) → begun_after false j 0 ≡ 0
begun_after_none zero = refl
begun_after_none (suc j) = refl

begun_after_all : (j : ℕ) → begun_after true j 0 ≡ j
begun_after_all zero = refl
begun_after_all (suc j) = omega arith

-- what blocks of repeat q come to for it
own_blocks : (q : ℕ) {P : List Item → Type 0} → Lacks q P → (j : ℕ) (x y : List Item) (k : ℕ) → Power (Block P q) j x
    → begun q (x ++ y) k ≡ begun q y (begun_after (opens_next q y) j k)
own_blocks q f j x y k none = refl
own_blocks q f j x y k (more n u v (block w h p) d) =
    ap (λ (t : List Item). begun q (opening q ∷ t) k) (block_append q w v y)
    ∙ own_block q w (v ++ y) k (f w p)
    ∙ ap (λ (b : Bool). begun q (v ++ y) (cond b (suc k) 0)) (blocks_open q n v y d)
    ∙ own_blocks q f n v y (cond (opens_after (opens_next q y) n) (suc k) 0) d
    ∙ ap (begun q y) (begun_after_one (opens_next q y) n k)

-- blocks leave none begun, of their own repeat or of any other
blocks_leave : (i q : ℕ) {P : List Item → Type 0} → Lacks q P → Leaves i P → (j : ℕ) → Leaves i (Power (Block P q) j)
blocks_leave i q {P} g f j = ⊎_elim (λ e. subst (λ (n : ℕ). Leaves n (Power (Block P q) j)) e own) other (same_or_other q i)
  where
    own : Leaves q (Power (Block P q) j)
    own x y k o = own_blocks q g j x y 0 k ∙ ap (λ (b : Bool). begun q y (begun_after b j 0)) o ∙ ap (begun q y) (begun_after_none j)

    other : eqb q i ≡ false → Leaves i (Power (Block P q) j)
    other m x y k o = others_leave i q m f j x y k

-- node i is none of the left part's, or none of the right part's
apart_side : (i s : ℕ) (l r : Expr) → Apart i s l ⊎ Apart i (s + size l) r
apart_side i s l r = ⊎_map (λ h q a c. h q c) (λ h q a c. h q a) (none_below_or_none_from i (s + size l))

-- no node of the body is the repeat's own
own_apart : (s : ℕ) (b : Expr) → Apart (s + size b) s b
own_apart s b q a c = eqb_less q (s + size b) c

-- a reading leaves no block of any node begun, where no opening of that node follows
pub reading_leaves : (i s : ℕ) (e : Expr) (x y : List Item) → Reading s e x → opens_next i y ≡ false → begun i (x ++ y) 0 ≡ begun i y 0
reading_leaves i s empty x y nil o = refl
reading_leaves i s (event c) x y one o = refl
reading_leaves i s (choice l r) x y (left k) o = reading_leaves i s l x y k o
reading_leaves i s (choice l r) x y (right k) o = reading_leaves i (s + size l) r x y k o
reading_leaves i s (sequence l r) x y k o =
    let side = ⊎_map (reading_lacks i s l) (reading_lacks i (s + size l) r) (apart_side i s l r) in
    cat_leaves i (reading_leaves i s l) (reading_leaves i (s + size l) r) side x y k o
reading_leaves i s (repeat b lower upper) x y (times j lo up k) o =
    blocks_leave i (s + size b) (reading_lacks (s + size b) s b (own_apart s b)) (reading_leaves i s b) j x y k o

-- the blocks of node i begun at the place
abbrev pub blocks_at : ℕ → (e : Expr) → Place e → ℕ → ℕ
blocks_at s empty p i = elim p [ ]
blocks_at s (event c) p i = 0
blocks_at s (choice l r) (inl p) i = blocks_at s l p i
blocks_at s (choice l r) (inr p) i = blocks_at (s + size l) r p i
blocks_at s (sequence l r) (inl p) i = blocks_at s l p i
blocks_at s (sequence l r) (inr p) i = blocks_at (s + size l) r p i
blocks_at s (repeat b lower upper) p i = cond (eqb (s + size b) i) (suc p.1) (blocks_at s b p.0 i)

-- blocks of repeat q, the opening of one more, and items without its marks
open_block : (q j : ℕ) {P : List Item → Type 0} → Lacks q P → (w v : List Item) → Power (Block P q) j w → Without q v
    → begun q (w ++ (opening q ∷ v)) 0 ≡ suc j
open_block q j g w v k h =
    own_blocks q g j w (opening q ∷ v) 0 k
    ∙ ap (λ (b : Bool). begun q v (cond b (suc (begun_after b j 0)) (begun_after b j 0))) (eqb_same q)
    ∙ ap (λ (n : ℕ). begun q v (suc n)) (begun_after_all j)
    ∙ ap (λ (t : List Item). begun q t (suc j)) (sym (append-nil v))
    ∙ without_begun q v [] (suc j) h

-- the same, for any node
blocks_begun : (q j : ℕ) {P : List Item → Type 0} → Lacks q P → ((i : ℕ) → Leaves i P) → (w v : List Item) → Power (Block P q) j w → Without q v
    → (f : ℕ → ℕ) → ((i : ℕ) → begun i v 0 ≡ f i) → (i : ℕ) → begun i (w ++ (opening q ∷ v)) 0 ≡ cond (eqb q i) (suc j) (f i)
blocks_begun q j g h w v k m f c i =
    ⊎_elim (λ e. subst (λ (n : ℕ). begun n (w ++ (opening q ∷ v)) 0 ≡ cond (eqb q n) (suc j) (f n)) e own) other (same_or_other q i)
  where
    own : begun q (w ++ (opening q ∷ v)) 0 ≡ cond (eqb q q) (suc j) (f q)
    own = open_block q j g w v k m ∙ ap (λ (b : Bool). cond b (suc j) (f q)) (sym (eqb_same q))

    other : eqb q i ≡ false → begun i (w ++ (opening q ∷ v)) 0 ≡ cond (eqb q i) (suc j) (f i)
    other n =
        others_leave i q n (h i) j w (opening q ∷ v) k
        ∙ ap (λ (b : Bool). begun i v (cond b 1 0)) n
        ∙ c i
        ∙ ap (λ (b : Bool). cond b (suc j) (f i)) (sym n)

-- the blocks begun, counted over the items before a place, are those of the place
pub before_begun : (s : ℕ) (e : Expr) (p : Place e) (u : List Item) → Before s e p u → (i : ℕ) → begun i u 0 ≡ blocks_at s e p i
before_begun s empty p u b i = absurd b
before_begun s (event c) p u one i = refl
before_begun s (choice l r) (inl p) u b i = before_begun s l p u b i
before_begun s (choice l r) (inr p) u b i = before_begun (s + size l) r p u b i
before_begun s (sequence l r) (inl p) u b i = before_begun s l p u b i
before_begun s (sequence l r) (inr p) u (cat x v a b) i =
    let side : Lacks i (Reading s l) ⊎ Lacks i (Before (s + size l) r p) =
    ⊎_map (reading_lacks i s l) (λ m. before_lacks i (s + size l) r m p) (apart_side i s l r) in
    let still = first_leaves i (reading_leaves i s l) side x v [] a b refl in
    subst (λ (t : List Item). begun i (x ++ t) 0 ≡ begun i t 0) (append-nil v) still ∙ before_begun (s + size l) r p v b i
before_begun s (repeat b lower upper) p u (cat w z k (cat o v one c)) i =
    let own = own_apart s b in
    blocks_begun (s + size b) p.1 (reading_lacks (s + size b) s b own) (λ n. reading_leaves n s b) w v k
    (before_lacks (s + size b) s b own p.0 v c) (blocks_at s b p.0) (before_begun s b p.0 v c) i

-- the node reached after two lists
pub reached-append : (x y : List Item) (n : ℕ) → reached (x ++ y) n ≡ reached y (reached x n)
reached-append [] y n = refl
reached-append (place i c ∷ x) y n = reached-append x y (i + 1)
reached-append (opening q ∷ x) y n = reached-append x y n
reached-append (closing q ∷ x) y n = reached-append x y n

-- the node reached is the place's
before_reached : (s : ℕ) (e : Expr) (p : Place e) (u : List Item) (n : ℕ) → Before s e p u → reached u n ≡ node_of s e p + 1
before_reached s e p u n b =
    let t = before_ends s e p u b in ap (λ (x : List Item). reached x n) t.1 ∙ reached-append t.0 (item_of s e p ∷ []) n

-- no block begun is counted as 0
stop_zero : (lower : ℕ) (upper : Upper) → stop lower upper 0 ≡ 0
stop_zero lower (upto n) = refl
stop_zero lower endless = omega arith

-- where no block is begun in the part, its counters are 0
pub counters-zeros : (f : ℕ → ℕ) (s : ℕ) (e : Expr) → ((i : ℕ) → s ≤ i → i < s + size e → f i ≡ 0) → counters f s e ≡ zeros e
counters-zeros f s empty h = refl
counters-zeros f s (event c) h = refl
counters-zeros f s (choice l r) h =
    ap₂ ◌++◌ (counters-zeros f s l (λ i a b. h i a (omega arith))) (counters-zeros f (s + size l) r (λ i a b. h i (omega arith) (omega arith)))
counters-zeros f s (sequence l r) h =
    ap₂ ◌++◌ (counters-zeros f s l (λ i a b. h i a (omega arith))) (counters-zeros f (s + size l) r (λ i a b. h i (omega arith) (omega arith)))
counters-zeros f s (repeat b lower upper) h =
    let own = ap (stop (low (nullable b) lower) upper) (h (s + size b) (omega arith) (omega arith)) ∙ stop_zero (low (nullable b) lower) upper in
    ap₂ (λ (x : List ℕ) (n : ℕ). x ++ (n ∷ [])) (counters-zeros f s b (λ i a c. h i a (omega arith))) own

-- no block is begun outside the part
apart_blocks : (i s : ℕ) (e : Expr) → Apart i s e → (p : Place e) → blocks_at s e p i ≡ 0
apart_blocks i s empty m p = elim p [ ]
apart_blocks i s (event c) m p = refl
apart_blocks i s (choice l r) m (inl p) = apart_blocks i s l (λ q a c. m q a (omega arith)) p
apart_blocks i s (choice l r) m (inr p) = apart_blocks i (s + size l) r (λ q a c. m q (omega arith) (omega arith)) p
apart_blocks i s (sequence l r) m (inl p) = apart_blocks i s l (λ q a c. m q a (omega arith)) p
apart_blocks i s (sequence l r) m (inr p) = apart_blocks i (s + size l) r (λ q a c. m q (omega arith) (omega arith)) p
apart_blocks i s (repeat b lower upper) m p =
    ap (λ (t : Bool). cond t (suc p.1) (blocks_at s b p.0 i)) (m (s + size b) (omega arith) (omega arith))
    ∙ apart_blocks i s b (λ q a c. m q a (omega arith)) p.0

-- the counters of the other part of a choice or a sequence are 0
right_zeros : (f : ℕ → ℕ) (s : ℕ) (l r : Expr) (p : Place l) → ((i : ℕ) → s ≤ i → i < s + (size l + size r + 1) → f i ≡ blocks_at s l p i)
    → counters f (s + size l) r ≡ zeros r
right_zeros f s l r p h =
    counters-zeros f (s + size l) r (λ i a b. h i (omega arith) (omega arith) ∙ apart_blocks i s l (λ q c d. eqb_less q i (omega arith)) p)

left_zeros : (f : ℕ → ℕ) (s : ℕ) (l r : Expr) (p : Place r) → ((i : ℕ) → s ≤ i → i < s + (size l + size r + 1) → f i ≡ blocks_at (s + size l) r p i)
    → counters f s l ≡ zeros l
left_zeros f s l r p h =
    counters-zeros f s l (λ i a b. h i (omega arith) (omega arith) ∙ apart_blocks i (s + size l) r (λ q c d. eqb_more q i (omega arith)) p)

-- where the blocks begun are those of the place, so are the counters
counters_place : (f : ℕ → ℕ) (s : ℕ) (e : Expr) (p : Place e) → ((i : ℕ) → s ≤ i → i < s + size e → f i ≡ blocks_at s e p i) → counters f s e ≡ place_counts e p
counters_place f s empty p h = elim p [ ]
counters_place f s (event c) p h = refl
counters_place f s (choice l r) (inl p) h = ap₂ ◌++◌ (counters_place f s l p (λ i a b. h i a (omega arith))) (right_zeros f s l r p h)
counters_place f s (choice l r) (inr p) h =
    ap₂ ◌++◌ (left_zeros f s l r p h) (counters_place f (s + size l) r p (λ i a b. h i (omega arith) (omega arith)))
counters_place f s (sequence l r) (inl p) h = ap₂ ◌++◌ (counters_place f s l p (λ i a b. h i a (omega arith))) (right_zeros f s l r p h)
counters_place f s (sequence l r) (inr p) h =
    ap₂ ◌++◌ (left_zeros f s l r p h) (counters_place f (s + size l) r p (λ i a b. h i (omega arith) (omega arith)))
counters_place f s (repeat b lower upper) p h =
    let q = s + size b in
    let below : (i : ℕ) → s ≤ i → i < s + size b → f i ≡ blocks_at s b p.0 i =
    λ i a c. h i a (omega arith) ∙ ap (λ (t : Bool). cond t (suc p.1) (blocks_at s b p.0 i)) (eqb_more q i c) in
    let own = h q (omega arith) (omega arith) ∙ ap (λ (t : Bool). cond t (suc p.1) (blocks_at s b p.0 q)) (eqb_same q) in
    ap₂ (λ (x : List ℕ) (n : ℕ). x ++ (stop (low (nullable b) lower) upper n ∷ [])) (counters_place f s b p.0 below) own

-- the state after the items before a place is the place's
pub before_state : (e : Expr) (p : Place e) (u : List Item) → Before 0 e p u → state_of e u ≡ place_state e p
before_state e p u b =
    let n = before_reached 0 e p u 0 b in
    let c = counters_place (λ i. begun i u 0) 0 e p (λ i x y. before_begun 0 e p u b i) in
    λ j. record { node = n j; counts = c j }
