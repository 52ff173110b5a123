-- Readings are exactly: nothing where the part may be empty, or a start, steps and an end.
use mathlib.Core.Path.{◌≡◌, refl, sym, subst}
use mathlib.Core.Logic.{inl, inr, ⊎_elim}
use mathlib.Core.Bool.{So, false≢true, and-eq-true_iff}
use mathlib.Core.List.{List, [], ◌∷◌, ◌++◌, append_assoc, append-nil}
use Prim.Native.Nat.{ℕ, zero, suc, ◌+◌, ◌≤◌}
use native.Mathlib.Omega.{arith}
use lib.ListN.{length}
use Rattle.meaning.specs.Expr.{Expr, empty, event, choice, sequence, repeat, size, Upper, Within, Bounded}
use Rattle.meaning.specs.Lists.{nil, One, one, left, right, Cat, cat, none, more, times}
use Rattle.meaning.specs.Normal.{nullable, low}
use Rattle.meaning.specs.Reading.{Item, opening, closing, codes, Block, block, Reading}
use Rattle.meaning.specs.Theory.Places.{Place, node_of, code_at, item_of, Sound, CanStart, opens, CanEnd, closes, Step, Blocks, blocks, Rest}
use Rattle.meaning.proofs.General.Facts.{so_or, low_zero, zero_low, within_le, append_cut, cat_at}
use Rattle.meaning.proofs.Expressions.Items.{codes_event}

-- a place that some items complete is sound
pub rest_sound : (s : ℕ) (e : Expr) → Bounded e → (p : Place e) (y : List Item) → Rest s e p y → Sound e p
rest_sound s empty h p y r = r
rest_sound s (event c) h p y r = tt
rest_sound s (choice l r) h (inl p) y k = rest_sound s l h.0 p y k
rest_sound s (choice l r) h (inr p) y k = rest_sound (s + size l) r h.1 p y k
rest_sound s (sequence l r) h (inl p) y (cat u v a b) = rest_sound s l h.0 p u a
rest_sound s (sequence l r) h (inr p) y k = rest_sound (s + size l) r h.1 p y k
rest_sound s (repeat b lower upper) h p y (cat u v a (cat w z c (blocks j lo up d))) =
    (rest_sound s b h.0 p.0 u a, within_le _ _ upper (omega arith) up)

-- a place that a reading begins with is sound
pub start_sound : (e : Expr) → Bounded e → (q : Place e) → CanStart e q → Sound e q
start_sound empty h q c = c
start_sound (event d) h q c = tt
start_sound (choice l r) h (inl q) c = start_sound l h.0 q c
start_sound (choice l r) h (inr q) c = start_sound r h.1 q c
start_sound (sequence l r) h (inl q) c = start_sound l h.0 q c
start_sound (sequence l r) h (inr q) c = start_sound r h.1 q c.1
start_sound (repeat b lower upper) h q c =
    let z = c.1 in (start_sound b h.0 q.0 c.0, within_le _ 1 upper (omega arith) h.2)

-- a step leads from a sound place to a sound place
pub step_sound : (s : ℕ) (e : Expr) → Bounded e → (p q : Place e) (m : List Item) → Sound e p → Step s e p q m → Sound e q
step_sound s empty h p q m k t = t
step_sound s (event c) h p q m k t = tt
step_sound s (choice l r) h (inl p) (inl q) m k t = step_sound s l h.0 p q m k t
step_sound s (choice l r) h (inl p) (inr q) m k t = absurd t
step_sound s (choice l r) h (inr p) (inl q) m k t = absurd t
step_sound s (choice l r) h (inr p) (inr q) m k t = step_sound (s + size l) r h.1 p q m k t
step_sound s (sequence l r) h (inl p) (inl q) m k t = step_sound s l h.0 p q m k t
step_sound s (sequence l r) h (inl p) (inr q) m k t = start_sound r h.1 q t.1
step_sound s (sequence l r) h (inr p) (inl q) m k t = absurd t
step_sound s (sequence l r) h (inr p) (inr q) m k t = step_sound (s + size l) r h.1 p q m k t
step_sound s (repeat b lower upper) h p q m k (inl t) =
    let e = t.1 in (step_sound s b h.0 p.0 q.0 m k.0 t.0, within_le _ (suc p.1) upper (omega arith) k.1)
step_sound s (repeat b lower upper) h p q m k (inr t) = (start_sound b h.0 q.0 t.1, t.3)

-- a reading of the part: nothing, or a first event and what completes it
pub data Begun (s : ℕ) (e : Expr) : List Item → Type 0 where
  nothing : So (nullable e) → Begun s e []
  first : (q : Place e) (y : List Item) → CanStart e q → Rest s e q y → Begun s e (opens s e q ++ (item_of s e q ∷ y))

module _ (s : ℕ) (b : Expr) (lower : ℕ) (upper : Upper) where
  -- further blocks of the repeat over b, k of them begun already
  abbrev Further : ℕ → List Item → Type 0
  Further = Blocks (Block (Reading s b) (s + size b)) (low (nullable b) lower) upper

  -- none, or another with its first event and what completes that
  data NoneOrAnother (k : ℕ) : List Item → Type 0 where
    enough : low (nullable b) lower ≤ k → Within k upper → NoneOrAnother k []
    another : (q : Place b) (y : List Item) → CanStart b q → Rest s (repeat b lower upper) (q, k) y
        → NoneOrAnother k (opening (s + size b) ∷ (opens s b q ++ (item_of s b q ∷ y)))

  -- a block whose body has begun, with further blocks behind it
  block_next : (k : ℕ) (w v : List Item) → 1 ≤ length (codes w) → Begun s b w → Further (suc k) v
      → NoneOrAnother k (opening (s + size b) ∷ (w ++ (closing (s + size b) ∷ []) ++ v))
  block_next k w v e (nothing n) f = absurd (omega arith)
  block_next k w v e (first q y c r) f =
      let a = closing (s + size b) in
      simp append_assoc (another q (y ++ (a ∷ v)) c (cat y (a ∷ v) r (cat (a ∷ []) v one f)))

  -- further blocks are none or another, where readings of the body begin so
  further_next : ((u : List Item) → Reading s b u → Begun s b u) → (k : ℕ) (x : List Item) → Further k x → NoneOrAnother k x
  further_next begun k x (blocks zero lo up none) = enough (omega arith) (within_le _ _ upper (omega arith) up)
  further_next begun k x (blocks (suc i) lo up (more j u v (block w e r) p)) =
      block_next k w v e (begun w r) (blocks j (omega arith) (within_le _ _ upper (omega arith) up) p)

  -- and the other way
  next_further : ((u : List Item) → Begun s b u → Reading s b u) → (k : ℕ) (x : List Item) → NoneOrAnother k x → Further k x
  next_further reading k x (enough lo up) = blocks zero (omega arith) (within_le _ _ upper (omega arith) up) none
  next_further reading k x (another q y c (cat u v a (cat w z one (blocks j lo up d)))) =
      let i = opens s b q ++ (item_of s b q ∷ u) in
      let whole : Block (Reading s b) (s + size b) (opening (s + size b) ∷ (i ++ (closing (s + size b) ∷ []))) =
      block i (codes_event (opens s b q) (node_of s b q) (code_at b q) u) (reading i (first q u c a)) in
      let all : Further k (opening (s + size b) ∷ (i ++ (closing (s + size b) ∷ []) ++ z)) =
      blocks (suc j) (omega arith) (within_le _ _ upper (omega arith) up) (more j _ z whole d) in
      simp append_assoc at all

  -- blocks of which none is begun yet are a reading of the repeat
  further_reading : (k : ℕ) (x : List Item) → k ≡ zero → Further k x → Reading s (repeat b lower upper) x
  further_reading k x z (blocks j lo up d) = times j (omega arith) (within_le _ _ upper (omega arith) up) d

-- a reading of a sequence begins in its left, or in its right where its left may be empty
begun_sequence : {s : ℕ} {l r : Expr} (u v : List Item) → Begun s l u → Begun (s + size l) r v → Reading (s + size l) r v
    → Begun s (sequence l r) (u ++ v)
begun_sequence {l = l} {r = r} u v (nothing n) (nothing m) b = nothing ((and-eq-true_iff (nullable l) (nullable r)).1 (n, m))
begun_sequence u v (nothing n) (first q y c k) b = first (inr q) y (n, c) k
begun_sequence u v (first q y c k) w b = simp append_assoc (first (inl q) (y ++ v) c (cat y v k b))

-- a reading is nothing, or a first event and what completes it
pub reading_begun : (s : ℕ) (e : Expr) → Bounded e → (x : List Item) → Reading s e x → Begun s e x
reading_begun s empty h x nil = nothing refl
reading_begun s (event c) h x one = first tt [] tt nil
reading_begun s (choice l r) h x (left k) =
    elim (reading_begun s l h.0 x k) as (λ y _. Begun s (choice l r) y)
    [ nothing n ↦ nothing ((so_or (nullable l) (nullable r)).1 (inl n)) | first q y c w ↦ first (inl q) y c w ]
reading_begun s (choice l r) h x (right k) =
    elim (reading_begun (s + size l) r h.1 x k) as (λ y _. Begun s (choice l r) y)
    [ nothing n ↦ nothing ((so_or (nullable l) (nullable r)).1 (inr n)) | first q y c w ↦ first (inr q) y c w ]
reading_begun s (sequence l r) h x (cat u v a b) =
    begun_sequence u v (reading_begun s l h.0 u a) (reading_begun (s + size l) r h.1 v b) b
reading_begun s (repeat b lower upper) h x (times j lo up p) =
    let f : Further s b lower upper zero x = blocks j (omega arith) (within_le _ j upper (omega arith) up) p in
    elim (further_next s b lower upper (reading_begun s b h.0) zero x f) as (λ y _. Begun s (repeat b lower upper) y)
    [ enough le up ↦ nothing (low_zero (nullable b) lower le) | another q y c w ↦ first (q, zero) y (c, refl) w ]

-- nothing, where the part may be empty, is a reading, and so is a first event with what completes it
pub begun_reading : (s : ℕ) (e : Expr) → Bounded e → (x : List Item) → Begun s e x → Reading s e x
begun_reading s empty h x (nothing n) = nil
begun_reading s empty h x (first q y c k) = absurd c
begun_reading s (event d) h x (nothing n) = absurd (false≢true n)
begun_reading s (event d) h x (first q y c nil) = one
begun_reading s (choice l r) h x (nothing n) =
    ⊎_elim (λ m. left (begun_reading s l h.0 [] (nothing m))) (λ m. right (begun_reading (s + size l) r h.1 [] (nothing m)))
    ((so_or (nullable l) (nullable r)).0 n)
begun_reading s (choice l r) h x (first (inl q) y c k) = left (begun_reading s l h.0 _ (first q y c k))
begun_reading s (choice l r) h x (first (inr q) y c k) = right (begun_reading (s + size l) r h.1 _ (first q y c k))
begun_reading s (sequence l r) h x (nothing n) =
    let both = (and-eq-true_iff (nullable l) (nullable r)).0 n in
    cat [] [] (begun_reading s l h.0 [] (nothing both.0)) (begun_reading (s + size l) r h.1 [] (nothing both.1))
begun_reading s (sequence l r) h x (first (inl q) y c (cat u v a b)) =
    cat_at (opens s l q ++ (item_of s l q ∷ u)) v (begun_reading s l h.0 _ (first q u c a)) b
    (sym (append_assoc (opens s l q) (item_of s l q ∷ u) v))
begun_reading s (sequence l r) h x (first (inr q) y c k) =
    cat [] _ (begun_reading s l h.0 [] (nothing c.0)) (begun_reading (s + size l) r h.1 _ (first q y c.1 k))
begun_reading s (repeat b lower upper) h x (nothing n) =
    times zero (zero_low (nullable b) lower n) (within_le _ 1 upper (omega arith) h.2) none
begun_reading s (repeat b lower upper) h x (first q y c k) =
    further_reading s b lower upper q.1 _ c.1 (next_further s b lower upper (begun_reading s b h.0) q.1 _ (another q.0 y c.0 k))

-- what completes a reading from a place: the end, or a step and what completes it from there
pub data Goes (s : ℕ) (e : Expr) (p : Place e) : List Item → Type 0 where
  ends : CanEnd e p → Goes s e p (closes s e p)
  steps : (q : Place e) (m y : List Item) → Step s e p q m → Rest s e q y → Goes s e p (m ++ (item_of s e q ∷ y))

-- from the left of a sequence: a step inside it, or its end and the beginning of the right
goes_sequence : {s : ℕ} {l r : Expr} {p : Place l} (u v : List Item) → Goes s l p u → Begun (s + size l) r v → Reading (s + size l) r v
    → Goes s (sequence l r) (inl p) (u ++ v)
goes_sequence u v (ends c) (nothing n) b = simp append-nil (ends (c, n))
goes_sequence {s} {l} {r} {p} u v (ends c) (first q y d k) b =
    subst (Goes s (sequence l r) (inl p)) (append_assoc (closes s l p) (opens (s + size l) r q) (item_of (s + size l) r q ∷ y))
    (steps (inr q) _ y (c, d, refl) k)
goes_sequence u v (steps q m z t k) w b = simp append_assoc (steps (inl q) m (z ++ v) t (cat z v k b))

-- from the body of a repeat: a step inside it, or its end and the closing, and there the end or the next block
goes_repeat : {s : ℕ} {b : Expr} {lower : ℕ} {upper : Upper} → Bounded (repeat b lower upper) → (p : Place b × ℕ) (u v : List Item)
    → Goes s b p.0 u → NoneOrAnother s b lower upper (suc p.1) v → Further s b lower upper (suc p.1) v
    → Goes s (repeat b lower upper) p (u ++ (closing (s + size b) ∷ v))
goes_repeat {s} {b} {lower} {upper} h p u v (ends c) (enough lo up) f = ends (c, lo)
goes_repeat {s} {b} {lower} {upper} h p u v (ends c) (another q y d k) f =
    let m = closing (s + size b) ∷ opening (s + size b) ∷ opens s b q in
    let within = (rest_sound s (repeat b lower upper) h (q, suc p.1) y k).1 in
    subst (Goes s (repeat b lower upper) p) (append_assoc (closes s b p.0) m (item_of s b q ∷ y))
    (steps (q, suc p.1) (closes s b p.0 ++ m) y (inr (c, d, refl, within, refl)) k)
goes_repeat {s} {b} {lower} {upper} h p u v (steps q m z t k) w f =
    let a = closing (s + size b) in
    simp append_assoc (steps (q, p.1) m (z ++ (a ∷ v)) (inl (t, refl)) (cat z (a ∷ v) k (cat (a ∷ []) v one f)))

-- what completes a reading is the end, or a step and what completes it from there
pub rest_goes : (s : ℕ) (e : Expr) → Bounded e → (p : Place e) (y : List Item) → Rest s e p y → Goes s e p y
rest_goes s empty h p y k = absurd k
rest_goes s (event c) h p y nil = ends tt
rest_goes s (choice l r) h (inl p) y k =
    elim (rest_goes s l h.0 p y k) as (λ z _. Goes s (choice l r) (inl p) z)
    [ ends c ↦ ends c | steps q m z t w ↦ steps (inl q) m z t w ]
rest_goes s (choice l r) h (inr p) y k =
    elim (rest_goes (s + size l) r h.1 p y k) as (λ z _. Goes s (choice l r) (inr p) z)
    [ ends c ↦ ends c | steps q m z t w ↦ steps (inr q) m z t w ]
rest_goes s (sequence l r) h (inl p) y (cat u v a b) =
    goes_sequence u v (rest_goes s l h.0 p u a) (reading_begun (s + size l) r h.1 v b) b
rest_goes s (sequence l r) h (inr p) y k =
    elim (rest_goes (s + size l) r h.1 p y k) as (λ z _. Goes s (sequence l r) (inr p) z)
    [ ends c ↦ ends c | steps q m z t w ↦ steps (inr q) m z t w ]
rest_goes s (repeat b lower upper) h p y (cat u v a (cat w z one f)) =
    goes_repeat h p u z (rest_goes s b h.0 p.0 u a) (further_next s b lower upper (reading_begun s b h.0) (suc p.1) z f) f

-- the end completes a reading from a sound place, and so does a step with what completes it from there
pub goes_rest : (s : ℕ) (e : Expr) → Bounded e → (p : Place e) → Sound e p → (y : List Item) → Goes s e p y → Rest s e p y
goes_rest s empty h p k y g = k
goes_rest s (event c) h p k y (ends t) = nil
goes_rest s (event c) h p k y (steps q m z t w) = absurd t
goes_rest s (choice l r) h (inl p) k y (ends c) = goes_rest s l h.0 p k _ (ends c)
goes_rest s (choice l r) h (inl p) k y (steps (inl q) m z t w) = goes_rest s l h.0 p k _ (steps q m z t w)
goes_rest s (choice l r) h (inl p) k y (steps (inr q) m z t w) = absurd t
goes_rest s (choice l r) h (inr p) k y (ends c) = goes_rest (s + size l) r h.1 p k _ (ends c)
goes_rest s (choice l r) h (inr p) k y (steps (inl q) m z t w) = absurd t
goes_rest s (choice l r) h (inr p) k y (steps (inr q) m z t w) = goes_rest (s + size l) r h.1 p k _ (steps q m z t w)
goes_rest s (sequence l r) h (inl p) k y (ends c) =
    cat_at (closes s l p) [] (goes_rest s l h.0 p k _ (ends c.0)) (begun_reading (s + size l) r h.1 [] (nothing c.1))
    (sym (append-nil (closes s l p)))
goes_rest s (sequence l r) h (inl p) k y (steps (inl q) m z t (cat u v a b)) =
    cat_at (m ++ (item_of s l q ∷ u)) v (goes_rest s l h.0 p k _ (steps q m u t a)) b (sym (append_assoc m (item_of s l q ∷ u) v))
goes_rest s (sequence l r) h (inl p) k y (steps (inr q) m z t w) =
    cat_at (closes s l p) _ (goes_rest s l h.0 p k _ (ends t.0)) (begun_reading (s + size l) r h.1 _ (first q z t.1 w))
    (append_cut m (closes s l p) (opens (s + size l) r q) (item_of (s + size l) r q ∷ z) t.2)
goes_rest s (sequence l r) h (inr p) k y (ends c) = goes_rest (s + size l) r h.1 p k _ (ends c)
goes_rest s (sequence l r) h (inr p) k y (steps (inl q) m z t w) = absurd t
goes_rest s (sequence l r) h (inr p) k y (steps (inr q) m z t w) = goes_rest (s + size l) r h.1 p k _ (steps q m z t w)
goes_rest s (repeat b lower upper) h p k y (ends c) =
    cat (closes s b p.0) _ (goes_rest s b h.0 p.0 k.0 _ (ends c.0))
    (cat _ [] one (next_further s b lower upper (begun_reading s b h.0) (suc p.1) [] (enough c.1 k.1)))
goes_rest s (repeat b lower upper) h p k y (steps q m z (inl t) (cat u v a f)) =
    cat_at (m ++ (item_of s b q.0 ∷ u)) v (goes_rest s b h.0 p.0 k.0 _ (steps q.0 m u t.0 a))
    (subst (λ j. Cat (One (closing (s + size b))) (Further s b lower upper (suc j)) v) t.1 f)
    (sym (append_assoc m (item_of s b q.0 ∷ u) v))
goes_rest s (repeat b lower upper) h p k y (steps q m z (inr t) w) =
    let rest = subst (λ j. Rest s (repeat b lower upper) (q.0, j) z) t.2 w in
    let f = next_further s b lower upper (begun_reading s b h.0) (suc p.1) _ (another q.0 z t.1 rest) in
    let a = closing (s + size b) in
    cat_at (closes s b p.0) _ (goes_rest s b h.0 p.0 k.0 _ (ends t.0)) (cat (a ∷ []) _ one f)
    (append_cut m (closes s b p.0) (a ∷ opening (s + size b) ∷ opens s b q.0) (item_of s b q.0 ∷ z) t.4)
