-- The items before a place: they are made by a start and steps, and with what completes them they are a reading.
-- Every sound place stands in a reading, and every reading can be cut after each of its events.
use mathlib.Core.Path.{◌≡◌, refl, sym, subst, ap, ◌∙◌}
use mathlib.Core.Logic.{◌⊎◌, inl, inr}
use mathlib.Core.Bool.{Bool, true, false, So, false≢true}
use mathlib.Core.List.{List, [], ◌∷◌, ◌++◌, append_assoc}
use Prim.Native.Nat.{ℕ, zero, suc, ◌+◌, ◌-◌, ◌≤◌}
use native.Mathlib.Nat.{le_refl}
use native.Mathlib.Omega.{arith}
use lib.ListN.{length}
use Rattle.meaning.specs.Expr.{Expr, empty, event, choice, sequence, repeat, size, Upper, Within, Bounded}
use Rattle.meaning.specs.Lists.{nil, One, one, left, right, Cat, cat, Power, none, Times, times}
use Rattle.meaning.specs.Normal.{nullable, low}
use Rattle.meaning.specs.Reading.{Item, place, opening, closing, Block, block, Reading, codes, up_to}
use Rattle.meaning.specs.Theory.Places.{Place, node_of, code_at, item_of, Sound, CanStart, opens, CanEnd, closes, Step, Blocks, blocks, Rest, Before}
use Rattle.meaning.proofs.General.Facts.{power_append, power_snoc, some_power, cat_append, append_cat, within_pad, low_within}
use Rattle.meaning.proofs.Expressions.Items.{events_append, events_up_to, up_to-append, up_to_first}
use Rattle.meaning.proofs.Places.Marks.{opens_no_event, closes_no_event, step_no_event}
use Rattle.meaning.proofs.Places.Steps.{Begun, nothing, first, reading_begun, begun_reading, Goes, ends, steps, rest_goes, goes_rest, start_sound, step_sound}

-- a list holds an event if its second part does
cat_event : {P Q : List Item → Type 0} (u : List Item) → Cat P Q u → ((v : List Item) → Q v → 1 ≤ length (codes v)) → 1 ≤ length (codes u)
cat_event u (cat x y p q) f =
    let a = f y q in
    let b = events_append x y in
    omega arith

-- the items before a place hold an event
pub before_event : (s : ℕ) (e : Expr) (p : Place e) (u : List Item) → Before s e p u → 1 ≤ length (codes u)
before_event s empty p u b = absurd b
before_event s (event c) p u one = omega arith
before_event s (choice l r) (inl p) u b = before_event s l p u b
before_event s (choice l r) (inr p) u b = before_event (s + size l) r p u b
before_event s (sequence l r) (inl p) u b = before_event s l p u b
before_event s (sequence l r) (inr p) u b = cat_event u b (before_event (s + size l) r p)
before_event s (repeat b lower upper) p u t = cat_event u t (λ v a. cat_event v a (before_event s b p.0))

-- blocks, and one more just opened
open_block : {P Q : List Item → Type 0} (r k : ℕ) (u v : List Item) → Power (Block P r) k u → Q v
    → Cat (Power (Block P r) k) (Cat (One (opening r)) Q) (u ++ (opening r ∷ v))
open_block r k u v a q = cat u (opening r ∷ v) a (cat (opening r ∷ []) v one q)

-- the items before a place that the part may begin with
pub before_start : (s : ℕ) (e : Expr) → Bounded e → (q : Place e) → CanStart e q → Before s e q (opens s e q ++ (item_of s e q ∷ []))
before_start s empty h q c = absurd c
before_start s (event d) h q c = one
before_start s (choice l r) h (inl q) c = before_start s l h.0 q c
before_start s (choice l r) h (inr q) c = before_start (s + size l) r h.1 q c
before_start s (sequence l r) h (inl q) c = before_start s l h.0 q c
before_start s (sequence l r) h (inr q) c =
    let x = opens (s + size l) r q ++ (item_of (s + size l) r q ∷ []) in
    cat [] x (begun_reading s l h.0 [] (nothing c.0)) (before_start (s + size l) r h.1 q c.1)
before_start s (repeat b lower upper) h q c =
    let x = opens s b q.0 ++ (item_of s b q.0 ∷ []) in
    let zeroth = subst (λ (k : ℕ). Power (Block (Reading s b) (s + size b)) k []) (sym c.1) none in
    open_block (s + size b) q.1 [] x zeroth (before_start s b h.0 q.0 c.0)

-- the open block of a repeat, finished, is one block more
finish_block : {P Q : List Item → Type 0} (r k : ℕ) (u z : List Item) → Cat (Power (Block P r) k) (Cat (One (opening r)) Q) u
    → ((v : List Item) → Q v → 1 ≤ length (codes v)) → ((v : List Item) → Q v → P (v ++ z))
    → Power (Block P r) (suc k) (u ++ (z ++ (closing r ∷ [])))
finish_block r k u z (cat x w a (cat o v one q)) f g =
    let held = f v q in
    let both = events_append v z in
    let t = power_snoc k x (opening r ∷ (v ++ z ++ (closing r ∷ []))) a (block (v ++ z) (omega arith) (g v q)) in
    simp append_assoc (simp append_assoc at t)

-- the open block of a repeat, finished, and further blocks
finish_repeat : {P Q R : List Item → Type 0} (r k lower : ℕ) (upper : Upper) (u y : List Item)
    → Cat (Power (Block P r) k) (Cat (One (opening r)) Q) u
    → Cat R (Cat (One (closing r)) (Blocks (Block P r) lower upper (suc k))) y
    → ((v : List Item) → Q v → 1 ≤ length (codes v)) → ((v z : List Item) → Q v → R z → P (v ++ z))
    → Times (Block P r) lower upper (u ++ y)
finish_repeat r k lower upper u y a (cat z w t (cat c x one (blocks j lo up b))) f g =
    let begun = finish_block r k u z a f (λ v q. g v z q t) in
    let all = power_append (suc k) j (u ++ (z ++ (closing r ∷ []))) x begun b in
    times {w = u ++ (z ++ (closing r ∷ x))} (suc k + j) lo up (simp append_assoc at all)

-- what stands before a place and what completes it from there make a reading
pub before_rest_reading : (s : ℕ) (e : Expr) (p : Place e) (u y : List Item) → Before s e p u → Rest s e p y → Reading s e (u ++ y)
before_rest_reading s empty p u y b t = absurd b
before_rest_reading s (event c) p u y one nil = one
before_rest_reading s (choice l r) (inl p) u y b t = left (before_rest_reading s l p u y b t)
before_rest_reading s (choice l r) (inr p) u y b t = right (before_rest_reading (s + size l) r p u y b t)
before_rest_reading s (sequence l r) (inl p) u y b t = append_cat u y t (λ v a. before_rest_reading s l p u v b a)
before_rest_reading s (sequence l r) (inr p) u y b t = cat_append u y b (λ v a. before_rest_reading (s + size l) r p v y a t)
before_rest_reading s (repeat d lower upper) p u y b t =
    finish_repeat (s + size d) p.1 (low (nullable d) lower) upper u y b t (before_event s d p.0) (λ v z. before_rest_reading s d p.0 v z)

-- what stands before a place that can end, with the closings from there, is a reading
before_end_reading : (s : ℕ) (e : Expr) → Bounded e → (p : Place e) → Sound e p → CanEnd e p → (u : List Item) → Before s e p u
    → Reading s e (u ++ closes s e p)
before_end_reading s e h p k c u b = before_rest_reading s e p u (closes s e p) b (goes_rest s e h p k (closes s e p) (ends c))

-- a step makes of the items before a place those before the next
pub before_step : (s : ℕ) (e : Expr) → Bounded e → (p q : Place e) (m u : List Item) → Sound e p → Before s e p u → Step s e p q m
    → Before s e q (u ++ (m ++ (item_of s e q ∷ [])))
before_step s empty h p q m u k b t = absurd b
before_step s (event c) h p q m u k b t = absurd t
before_step s (choice l r) h (inl p) (inl q) m u k b t = before_step s l h.0 p q m u k b t
before_step s (choice l r) h (inl p) (inr q) m u k b t = absurd t
before_step s (choice l r) h (inr p) (inl q) m u k b t = absurd t
before_step s (choice l r) h (inr p) (inr q) m u k b t = before_step (s + size l) r h.1 p q m u k b t
before_step s (sequence l r) h (inl p) (inl q) m u k b t = before_step s l h.0 p q m u k b t
before_step s (sequence l r) h (inl p) (inr q) m u k b t =
    let x = opens (s + size l) r q ++ (item_of (s + size l) r q ∷ []) in
    let a = before_end_reading s l h.0 p k t.0 u b in
    let b' = before_start (s + size l) r h.1 q t.1 in
    let w : Cat (Reading s l) (Before (s + size l) r q) (u ++ closes s l p ++ x) = cat (u ++ closes s l p) x a b' in
    rw t.2 (simp append_assoc (simp append_assoc at w))
before_step s (sequence l r) h (inr p) (inl q) m u k b t = absurd t
before_step s (sequence l r) h (inr p) (inr q) m u k b t =
    cat_append u (m ++ (item_of (s + size l) r q ∷ [])) b (λ v a. before_step (s + size l) r h.1 p q m v k a t)
before_step s (repeat d lower upper) h p q m u k b (inl t) =
    let z = m ++ (item_of s d q.0 ∷ []) in
    rw t.1 (cat_append u z b (λ v a. cat_append v z a (λ x c. before_step s d h.0 p.0 q.0 m x k.0 c t.0)))
before_step s (repeat d lower upper) h p q m u k b (inr t) =
    let r = s + size d in
    let x = opens s d q.0 ++ (item_of s d q.0 ∷ []) in
    let y = closes s d p.0 ++ (closing r ∷ []) in
    let ended = before_end_reading s d h.0 p.0 k.0 t.0 in
    let begun = finish_block r p.1 u (closes s d p.0) b (before_event s d p.0) ended in
    let w = open_block {Q = Before s d q.0} r (suc p.1) (u ++ y) x begun (before_start s d h.0 q.0 t.1) in
    rw (t.4, t.2) (simp append_assoc (simp append_assoc at w))

-- a reading of a part that may not be empty holds an event
begun_event : {s : ℕ} {e : Expr} (x : List Item) → Begun s e x → So (nullable e) ⊎ (1 ≤ length (codes x))
begun_event x (nothing n) = inl n
begun_event {s} {e} x (first q y c t) =
    let a = events_append (opens s e q) (item_of s e q ∷ y) in
    inr (omega arith)

-- a repeat has a reading if its body has one, with an event where the body may not be empty
some_times : {P : List Item → Type 0} (r : ℕ) (b : Bool) (lower : ℕ) (upper : Upper) (x : List Item)
    → Within lower upper → P x → So b ⊎ (1 ≤ length (codes x))
    → (w : List Item) × Times (Block P r) (low b lower) upper w
some_times r true lower upper x h p k = ([], times 0 (omega arith) (low_within true lower upper h) none)
some_times r false lower upper x h p (inl n) = absurd (false≢true n)
some_times r false lower upper x h p (inr k) =
    let w = some_power (opening r ∷ (x ++ (closing r ∷ []))) (block x k p) lower in
    (w.0, times lower (le_refl lower) h w.1)

-- every part has a reading
pub some_reading : (s : ℕ) (e : Expr) → Bounded e → (x : List Item) × Reading s e x
some_reading s empty h = ([], nil)
some_reading s (event c) h = (place s c ∷ [], one)
some_reading s (choice l r) h = let t = some_reading s l h.0 in (t.0, left t.1)
some_reading s (sequence l r) h =
    let t = some_reading s l h.0 in
    let w = some_reading (s + size l) r h.1 in
    (t.0 ++ w.0, cat t.0 w.0 t.1 w.1)
some_reading s (repeat b lower upper) h =
    let t = some_reading s b h.0 in
    some_times (s + size b) (nullable b) lower upper t.0 h.1 t.1 (begun_event t.0 (reading_begun s b h.0 t.0 t.1))

-- equal blocks on either side of the open one, from a body's reading that holds an event
around_block : {P Q R : List Item → Type 0} (r k lower : ℕ) (upper : Upper) (u y : List Item)
    → 1 ≤ length (codes u) → Q u → R y → P (u ++ y) → Within lower upper → Within (suc k) upper
    → (a z : List Item)
    × Cat (Power (Block P r) k) (Cat (One (opening r)) Q) a
    × Cat R (Cat (One (closing r)) (Blocks (Block P r) lower upper (suc k))) z
around_block {P} r k lower upper u y held q t p lo up =
    let x = opening r ∷ (u ++ y ++ (closing r ∷ [])) in
    let j = lower - suc k in
    let both = events_append u y in
    let enough : lower ≤ suc k + (lower - suc k) = omega arith in
    let full : Block P r x = block (u ++ y) (omega arith) p in
    let a = some_power x full k in
    let z = some_power x full j in
    let further = blocks j enough (within_pad lower (suc k) upper lo up) z.1 in
    (a.0 ++ (opening r ∷ u), y ++ (closing r ∷ z.0), open_block r k a.0 u a.1 q, cat y (closing r ∷ z.0) t (cat (closing r ∷ []) z.0 one further))

-- every sound place stands in some reading: items before it, and items that complete it
some_around : (s : ℕ) (e : Expr) → Bounded e → (p : Place e) → Sound e p → (u y : List Item) × Before s e p u × Rest s e p y
some_around s empty h p k = absurd p
some_around s (event c) h p k = (place s c ∷ [], [], one, nil)
some_around s (choice l r) h (inl p) k = some_around s l h.0 p k
some_around s (choice l r) h (inr p) k = some_around (s + size l) r h.1 p k
some_around s (sequence l r) h (inl p) k =
    let t = some_around s l h.0 p k in
    let x = some_reading (s + size l) r h.1 in
    (t.0, t.1 ++ x.0, t.2, cat t.1 x.0 t.3 x.1)
some_around s (sequence l r) h (inr p) k =
    let t = some_around (s + size l) r h.1 p k in
    let x = some_reading s l h.0 in
    (x.0 ++ t.0, t.1, cat x.0 t.0 x.1 t.2, t.3)
some_around s (repeat b lower upper) h p k =
    let t = some_around s b h.0 p.0 k.0 in
    let held = before_event s b p.0 t.0 t.2 in
    let glued = before_rest_reading s b p.0 t.0 t.1 t.2 t.3 in
    let lo = low_within (nullable b) lower upper h.1 in
    around_block (s + size b) p.1 (low (nullable b) lower) upper t.0 t.1 held t.2 t.3 glued lo k.1

-- every sound place has items before it
pub some_before : (s : ℕ) (e : Expr) → Bounded e → (p : Place e) → Sound e p → (u : List Item) × Before s e p u
some_before s e h p k = let t = some_around s e h p k in (t.0, t.2)

-- every sound place has items that complete it
pub some_rest : (s : ℕ) (e : Expr) → Bounded e → (p : Place e) → Sound e p → (y : List Item) × Rest s e p y
some_rest s e h p k = let t = some_around s e h p k in (t.1, t.3)

-- a reading cut after its n-th event, n at least 1: the place reached, the items before it and those that complete it
pub record CutAfter (s : ℕ) (e : Expr) (x : List Item) (n : ℕ) : Type 0 where
  pub reached : Place e
  pub after : List Item
  pub sound : Sound e reached
  pub before : Before s e reached (up_to x n)
  pub rest : Rest s e reached after
  pub whole : x ≡ up_to x n ++ after

-- a cut by the items before the place
cut_at : {s : ℕ} {e : Expr} (x : List Item) (n : ℕ) (p : Place e) (u y : List Item) → Sound e p → Before s e p u → Rest s e p y → up_to x n ≡ u → x ≡ u ++ y
    → CutAfter s e x n
cut_at x n p u y k b t a w = record { reached = p; after = y; sound = k; before = rw a b; rest = t; whole = w ∙ ap (λ (v : List Item). v ++ y) (sym a) }

-- a cut after the first event
cut_first : (s : ℕ) (e : Expr) → Bounded e → (x : List Item) → Begun s e x → 1 ≤ length (codes x) → CutAfter s e x 1
cut_first s e h x (nothing n) k = absurd (omega arith)
cut_first s e h x (first q y c t) k =
    let a = up_to_first (opens s e q) y (node_of s e q) (code_at e q) (opens_no_event s e q) in
    let u = opens s e q ++ (item_of s e q ∷ []) in
    cut_at x 1 q u y (start_sound e h q c) (before_start s e h q c) t a (sym (append_assoc (opens s e q) (item_of s e q ∷ []) y))

-- a cut one event further
cut_next : (s : ℕ) (e : Expr) → Bounded e → (x : List Item) (n : ℕ) (p : Place e) (u y : List Item)
    → Sound e p → Before s e p u → length (codes u) ≡ suc n → x ≡ u ++ y → Goes s e p y → suc (suc n) ≤ length (codes x) → CutAfter s e x (suc (suc n))
cut_next s e h x n p u y k b c w (ends d) l =
    let both = events_append u (closes s e p) in
    let all : length (codes x) ≡ length (codes (u ++ closes s e p)) = ap (λ (t : List Item). length (codes t)) w in
    let none_left : length (codes (closes s e p)) ≡ 0 = ap {B = ℕ} length (closes_no_event s e p) in
    absurd (omega arith)
cut_next s e h x n p u y k b c w (steps q m z t d) l =
    let i = item_of s e q in
    let marks = up_to_first m z (node_of s e q) (code_at e q) (step_no_event s e p q m t) in
    let past = up_to-append u (m ++ (i ∷ z)) 0 (suc (suc n)) (omega arith) in
    let a = ap (λ (v : List Item). up_to v (suc (suc n))) w ∙ past ∙ ap {B = List Item} (λ v. u ++ v) marks in
    let b' = before_step s e h p q m u k b t in
    cut_at x (suc (suc n)) q (u ++ (m ++ (i ∷ []))) z (step_sound s e h p q m k t) b' d a (w ∙ simp append_assoc)

-- a reading can be cut after each of its events
pub reading_cut : (s : ℕ) (e : Expr) → Bounded e → (x : List Item) (n : ℕ) → Reading s e x → suc n ≤ length (codes x) → CutAfter s e x (suc n)
reading_cut s e h x zero r k = cut_first s e h x (reading_begun s e h x r) k
reading_cut s e h x (suc n) r k =
    let t = reading_cut s e h x n r (omega arith) in
    let held = events_up_to x (suc n) in
    let goes = rest_goes s e h t.reached t.after t.rest in
    cut_next s e h x n t.reached (up_to x (suc n)) t.after t.sound t.before (omega arith) t.whole goes k

-- items that end with an item do so behind others
ends_behind : (x v : List Item) (a : Item) → (y : List Item) × (v ≡ y ++ (a ∷ [])) → (y : List Item) × (x ++ v ≡ y ++ (a ∷ []))
ends_behind x v a t = (x ++ t.0, ap (λ (y : List Item). x ++ y) t.1 ∙ sym (append_assoc x t.0 (a ∷ [])))

-- the items before a place end with its event
pub before_ends : (s : ℕ) (e : Expr) (p : Place e) (u : List Item) → Before s e p u → (x : List Item) × (u ≡ x ++ (item_of s e p ∷ []))
before_ends s empty p u b = absurd b
before_ends s (event c) p u one = ([], refl)
before_ends s (choice l r) (inl p) u b = before_ends s l p u b
before_ends s (choice l r) (inr p) u b = before_ends (s + size l) r p u b
before_ends s (sequence l r) (inl p) u b = before_ends s l p u b
before_ends s (sequence l r) (inr p) u (cat x v a b) = ends_behind x v (item_of (s + size l) r p) (before_ends (s + size l) r p v b)
before_ends s (repeat b lower upper) p u (cat w z k (cat o v one c)) =
    ends_behind w (opening (s + size b) ∷ v) (item_of s b p.0)
    (ends_behind (opening (s + size b) ∷ []) v (item_of s b p.0) (before_ends s b p.0 v c))
