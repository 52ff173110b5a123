-- Where no node has a conflict, each event has one place to go; so the part is strongly deterministic.
use mathlib.Core.Path.{◌≡◌, refl, sym, ◌∙◌, ap, subst, subst⁻¹}
use mathlib.Core.Logic.{◌↔◌, ◌⊎◌, inl, inr, ⊎_elim}
use mathlib.Core.List.{List, [], ◌∷◌, ◌++◌, cons-ne-nil, head-eq_of_cons-eq, tail-eq_of_cons-eq}
use Prim.Native.Nat.{ℕ, zero, suc, ◌+◌}
use native.Mathlib.Omega.{arith}
use lib.ListN.{take}
use Rattle.meaning.specs.Expr.{Expr, empty, event, choice, sequence, repeat, size, root, Part, Whole, Bounded}
use Rattle.meaning.specs.Reading.{Item, place, opening, closing, codes, up_to, Reading}
use Rattle.meaning.specs.Strong.{StronglyDeterministic}
use Rattle.meaning.specs.Sets.{First, After}
use Rattle.meaning.specs.Conflict.{Conflict, ConflictAt}
use Rattle.meaning.specs.Theory.Places.{Place, node_of, code_at, item_of, Sound, CanStart, CanEnd, opens, closes, Step, Rest}
use Rattle.meaning.specs.Theory.Conflicts.{Free}
use Rattle.meaning.proofs.General.Facts.{within_le}
use Rattle.meaning.proofs.Determinism.FirstAfter.{start_first, end_step_after}
use Rattle.meaning.proofs.Expressions.Items.{codes-append, up_to_zero, up_to_marks}
use Rattle.meaning.proofs.Places.Marks.{opens_no_event, closes_no_event, step_no_event}
use Rattle.meaning.proofs.Places.Steps.{Begun, nothing, first, reading_begun, Goes, ends, steps, rest_goes, rest_sound}

-- the same by the numbers of the nodes
abbrev NoConflict : ℕ → Expr → Type 0
NoConflict s e = (i k c : ℕ) → ¬ ConflictAt s e i k c

-- a conflict of the whole, found at its node, is one of the whole itself
whole_conflict : (s : ℕ) (e p : Expr) (i k c : ℕ) → Whole s e i p → Conflict p k c → Conflict e k c
whole_conflict s e p i k c w z = subst (λ (t : Expr). Conflict t k c) w.1 z

-- a node with two children, and all below it, has no conflict exactly if neither child has one, nor it itself
two_children : (s t : ℕ) (l r e : Expr) {F G : Type 0} → F ↔ NoConflict s l → G ↔ NoConflict t r
    → (F × G × ((k c : ℕ) → ¬ Conflict e k c)) ↔ ((i k c : ℕ) → ¬ ((p : Expr) × (Part s l i p ⊎ Part t r i p ⊎ Whole s e i p) × Conflict p k c))
two_children s t l r e a b = (
  λ f i k c z. ⊎_elim (λ x. a.0 f.0 i k c (z.0, x, z.2))
      (⊎_elim (λ x. b.0 f.1 i k c (z.0, x, z.2)) (λ w. f.2 k c (whole_conflict s e z.0 i k c w z.2))) z.1,
  λ g. (
    a.1 (λ i k c z. g i k c (z.0, inl z.1, z.2)),
    b.1 (λ i k c z. g i k c (z.0, inr (inl z.1), z.2)),
    λ k c z. g (root s e) k c (e, inr (inr (refl, refl)), z),
  ),
)

-- the part has no conflict exactly if none of its nodes has one
pub free_iff_no_conflict : (s : ℕ) (e : Expr) → Free e ↔ ((i k c : ℕ) → ¬ ConflictAt s e i k c)
free_iff_no_conflict s empty = (λ f i k c z. whole_conflict s empty z.0 i k c z.1 z.2, λ g. tt)
free_iff_no_conflict s (event d) = (λ f i k c z. whole_conflict s (event d) z.0 i k c z.1 z.2, λ g. tt)
free_iff_no_conflict s (choice l r) =
    two_children s (s + size l) l r (choice l r) (free_iff_no_conflict s l) (free_iff_no_conflict (s + size l) r)
free_iff_no_conflict s (sequence l r) =
    two_children s (s + size l) l r (sequence l r) (free_iff_no_conflict s l) (free_iff_no_conflict (s + size l) r)
free_iff_no_conflict s (repeat b lower upper) =
    let a = free_iff_no_conflict s b in
    let e = repeat b lower upper in (
      λ f i k c z. ⊎_elim (λ x. a.0 f.0 i k c (z.0, x, z.2)) (λ w. f.1 k c (whole_conflict s e z.0 i k c w z.2)) z.1,
      λ g. (a.1 (λ i k c z. g i k c (z.0, inl z.1, z.2)), λ k c z. g (root s e) k c (e, inr (refl, refl), z)),
    )

-- two places that can start with one code would share it in first of their parts
both_start : (l r : Expr) (p : Place l) (q : Place r) → CanStart l p → CanStart r q → code_at l p ≡ code_at r q → First l (code_at l p) × First r (code_at l p)
both_start l r p q a b c = (start_first l p a, subst⁻¹ (First r) c (start_first r q b))

-- from the start at most one way for a code
pub start_unique : (e : Expr) → Bounded e → Free e → (p q : Place e) → CanStart e p → CanStart e q → code_at e p ≡ code_at e q → p ≡ q
start_unique empty h f p q a b c = absurd a
start_unique (event d) h f p q a b c = refl
start_unique (choice l r) h f (inl p) (inl q) a b c = ap inl (start_unique l h.0 f.0 p q a b c)
start_unique (choice l r) h f (inl p) (inr q) a b c = let z = both_start l r p q a b c in absurd (f.2 1 (code_at l p) (refl, z.0, z.1))
start_unique (choice l r) h f (inr p) (inl q) a b c = let z = both_start l r q p b a (sym c) in absurd (f.2 1 (code_at l q) (refl, z.0, z.1))
start_unique (choice l r) h f (inr p) (inr q) a b c = ap inr (start_unique r h.1 f.1 p q a b c)
start_unique (sequence l r) h f (inl p) (inl q) a b c = ap inl (start_unique l h.0 f.0 p q a b c)
start_unique (sequence l r) h f (inl p) (inr q) a b c =
    let z = both_start l r p q a b.1 c in absurd (f.2 2 (code_at l p) (inl (refl, b.0, z.0, z.1)))
start_unique (sequence l r) h f (inr p) (inl q) a b c =
    let z = both_start l r q p b a.1 (sym c) in absurd (f.2 2 (code_at l q) (inl (refl, a.0, z.0, z.1)))
start_unique (sequence l r) h f (inr p) (inr q) a b c = ap inr (start_unique r h.1 f.1 p q a.1 b.1 c)
start_unique (repeat body lower upper) h f p q a b c =
    let x = start_unique body h.0 f.0 p.0 q.0 a.0 b.0 c in
    let y = a.1 ∙ sym b.1 in
    λ i. (x i, y i)

-- a step inside l and a start of r with one code would share it in after of l and first of r
step_and_start : (s : ℕ) (l r : Expr) → Bounded l → (p q : Place l) (z : Place r) (m : List Item)
    → Sound l p → CanEnd l p → Step s l p q m → CanStart r z → code_at l q ≡ code_at r z → After l (code_at l q) × First r (code_at l q)
step_and_start s l r h p q z m k e t a c = (end_step_after s l h p q m k e t, subst⁻¹ (First r) c (start_first r z a))

-- from every place at most one way for a code, with one list of marks
pub step_unique : (s : ℕ) (e : Expr) → Bounded e → Free e → (p : Place e) → Sound e p → (q r : Place e) (m n : List Item)
    → Step s e p q m → Step s e p r n → code_at e q ≡ code_at e r → (q ≡ r) × (m ≡ n)
step_unique s empty h f p k q z m n a b c = absurd a
step_unique s (event d) h f p k q z m n a b c = absurd a
step_unique s (choice l r) h f (inl p) k (inl q) (inl z) m n a b c =
    let i = step_unique s l h.0 f.0 p k q z m n a b c in (ap inl i.0, i.1)
step_unique s (choice l r) h f (inl p) k (inl q) (inr z) m n a b c = absurd b
step_unique s (choice l r) h f (inl p) k (inr q) z m n a b c = absurd a
step_unique s (choice l r) h f (inr p) k (inl q) z m n a b c = absurd a
step_unique s (choice l r) h f (inr p) k (inr q) (inl z) m n a b c = absurd b
step_unique s (choice l r) h f (inr p) k (inr q) (inr z) m n a b c =
    let i = step_unique (s + size l) r h.1 f.1 p k q z m n a b c in (ap inr i.0, i.1)
step_unique s (sequence l r) h f (inl p) k (inl q) (inl z) m n a b c =
    let i = step_unique s l h.0 f.0 p k q z m n a b c in (ap inl i.0, i.1)
step_unique s (sequence l r) h f (inl p) k (inl q) (inr z) m n a b c =
    let i = step_and_start s l r h.0 p q z m k b.0 a b.1 c in absurd (f.2 3 (code_at l q) (inr (refl, i.0, i.1)))
step_unique s (sequence l r) h f (inl p) k (inr q) (inl z) m n a b c =
    let i = step_and_start s l r h.0 p z q n k a.0 b a.1 (sym c) in absurd (f.2 3 (code_at l z) (inr (refl, i.0, i.1)))
step_unique s (sequence l r) h f (inl p) k (inr q) (inr z) m n a b c =
    let i = start_unique r h.1 f.1 q z a.1 b.1 c in
    (ap inr i, a.2 ∙ ap (λ x. closes s l p ++ opens (s + size l) r x) i ∙ sym b.2)
step_unique s (sequence l r) h f (inr p) k (inl q) z m n a b c = absurd a
step_unique s (sequence l r) h f (inr p) k (inr q) (inl z) m n a b c = absurd b
step_unique s (sequence l r) h f (inr p) k (inr q) (inr z) m n a b c =
    let i = step_unique (s + size l) r h.1 f.1 p k q z m n a b c in (ap inr i.0, i.1)
step_unique s (repeat body lower upper) h f p k q z m n (inl a) (inl b) c =
    let i = step_unique s body h.0 f.0 p.0 k.0 q.0 z.0 m n a.0 b.0 c in
    let x = i.0 in
    let y = a.1 ∙ sym b.1 in
    (λ j. (x j, y j), i.1)
step_unique s (repeat body lower upper) h f p k q z m n (inl a) (inr b) c =
    let i = step_and_start s body body h.0 p.0 q.0 z.0 m k.0 b.0 a.0 b.1 c in
    absurd (f.1 4 (code_at body q.0) (refl, within_le _ _ upper (omega (arith, b.2)) b.3, i.0, i.1))
step_unique s (repeat body lower upper) h f p k q z m n (inr a) (inl b) c =
    let i = step_and_start s body body h.0 p.0 z.0 q.0 n k.0 a.0 b.0 a.1 (sym c) in
    absurd (f.1 4 (code_at body z.0) (refl, within_le _ _ upper (omega (arith, a.2)) a.3, i.0, i.1))
step_unique s (repeat body lower upper) h f p k q z m n (inr a) (inr b) c =
    let x = start_unique body h.0 f.0 q.0 z.0 a.1 b.1 c in
    let y = a.2 ∙ sym b.2 in (
      λ j. (x j, y j),
      a.4 ∙ ap (λ w. closes s body p.0 ++ (closing (s + size body) ∷ opening (s + size body) ∷ opens s body w)) x ∙ sym b.4,
    )

-- of two lists of the set with the same codes up to the n-th event, all items up to it are the same
abbrev Agree : ℕ → (List Item → Type 0) → Type 0
Agree n P = (y z : List Item) → P y → P z → take n (codes y) ≡ take n (codes z) → up_to y n ≡ up_to z n

-- the items w without an event, or marks and an event to which a way leads, and what completes it from there
data StopsOrGoes (s : ℕ) (e : Expr) (w : List Item) (Via : Place e → List Item → Type 0) : List Item → Type 0 where
  stops : StopsOrGoes s e w Via w
  goes_on : (q : Place e) (m y : List Item) → Via q m → Rest s e q y → StopsOrGoes s e w Via (m ++ (item_of s e q ∷ y))

-- the ways pass no event, and one way at most leads to a code
record OneWay (e : Expr) (w : List Item) (Via : Place e → List Item → Type 0) : Type 0 where
  stop_no_event : codes w ≡ []
  way_no_event : (q : Place e) (m : List Item) → Via q m → codes m ≡ []
  unique : (q r : Place e) (m n : List Item) → Via q m → Via r n → code_at e q ≡ code_at e r → (q ≡ r) × (m ≡ n)

-- the codes of marks and an event, and what follows
take_event : (m y : List Item) (i c n : ℕ) → codes m ≡ [] → take (suc n) (codes (m ++ (place i c ∷ y))) ≡ c ∷ take n (codes y)
take_event m y i c n h = ap (take (suc n)) (codes-append m (place i c ∷ y) ∙ ap (λ (t : List ℕ). t ++ (c ∷ codes y)) h)

-- where one of two lists has no event and the other has one, their codes differ
one_stops : (x m y : List Item) (i c n : ℕ) → codes x ≡ [] → codes m ≡ [] → ¬ (take (suc n) (codes x) ≡ take (suc n) (codes (m ++ (place i c ∷ y))))
one_stops x m y i c n h k t = cons-ne-nil c (take n (codes y)) (sym (take_event m y i c n k) ∙ sym t ∙ ap (take (suc n)) h)

-- where there is one way at most, lists that go on agree as far as what completes them does
next_agree : (s : ℕ) (e : Expr) (w : List Item) (Via : Place e → List Item → Type 0) → OneWay e w Via
    → (n : ℕ) → ((q : Place e) → Agree n (Rest s e q)) → Agree (suc n) (StopsOrGoes s e w Via)
next_agree s e w Via o n g y z stops stops t = refl
next_agree s e w Via o n g y z stops (goes_on q m v a r) t =
    absurd (one_stops w m v (node_of s e q) (code_at e q) n o.stop_no_event (o.way_no_event q m a) t)
next_agree s e w Via o n g y z (goes_on q m v a r) stops t =
    absurd (one_stops w m v (node_of s e q) (code_at e q) n o.stop_no_event (o.way_no_event q m a) (sym t))
next_agree s e w Via o n g y z (goes_on q m v a r) (goes_on q' m' v' a' r') t =
    let k = o.way_no_event q m a in
    let k' = o.way_no_event q' m' a' in
    let c = sym (take_event m v (node_of s e q) (code_at e q) n k) ∙ t ∙ take_event m' v' (node_of s e q') (code_at e q') n k' in
    let u = o.unique q q' m m' a a' (head-eq_of_cons-eq c) in
    let same_place = u.0 in
    let same_marks = u.1 in
    let same_rest = g q v v' r (subst⁻¹ (λ (p : Place e). Rest s e p v') same_place r') (tail-eq_of_cons-eq c) in
    up_to_marks m v (node_of s e q) (code_at e q) n k
    ∙ (λ j. same_marks j ++ (item_of s e (same_place j) ∷ same_rest j))
    ∙ sym (up_to_marks m' v' (node_of s e q') (code_at e q') n k')

-- a way from a place is a step
goes_next : (s : ℕ) (e : Expr) (p : Place e) (y : List Item) → Goes s e p y → StopsOrGoes s e (closes s e p) (Step s e p) y
goes_next s e p y (ends c) = stops
goes_next s e p y (steps q m v t r) = goes_on q m v t r

-- a way from the start leads to a place that can start
abbrev Start : ℕ → (e : Expr) → Place e → List Item → Type 0
Start s e q m = CanStart e q × (m ≡ opens s e q)

-- a reading stops at once or goes such a way
begun_next : (s : ℕ) (e : Expr) (x : List Item) → Begun s e x → StopsOrGoes s e [] (Start s e) x
begun_next s e x (nothing n) = stops
begun_next s e x (first q y c r) = goes_on q (opens s e q) y (c, refl) r

-- without a conflict there is one way at most from each place
step_one_way : (s : ℕ) (e : Expr) → Bounded e → Free e → (p : Place e) → Sound e p → OneWay e (closes s e p) (Step s e p)
step_one_way s e h f p k =
    record { stop_no_event = closes_no_event s e p; way_no_event = step_no_event s e p; unique = step_unique s e h f p k }

-- and from the start
start_one_way : (s : ℕ) (e : Expr) → Bounded e → Free e → OneWay e [] (Start s e)
start_one_way s e h f =
    record {
      stop_no_event = refl;
      way_no_event = λ q m a. ap codes a.1 ∙ opens_no_event s e q;
      unique = λ q r m n a b c. let i = start_unique e h f q r a.0 b.0 c in (i, a.1 ∙ ap (opens s e) i ∙ sym b.1);
    }

-- lists that complete a reading from one place agree
rest_agree : (s : ℕ) (e : Expr) → Bounded e → Free e → (n : ℕ) (p : Place e) → Agree n (Rest s e p)
rest_agree s e h f zero p y z a b t = up_to_zero y ∙ sym (up_to_zero z)
rest_agree s e h f (suc n) p y z a b t =
    next_agree s e (closes s e p) (Step s e p) (step_one_way s e h f p (rest_sound s e h p y a)) n (rest_agree s e h f n) y z
    (goes_next s e p y (rest_goes s e h p y a))
    (goes_next s e p z (rest_goes s e h p z b))
    t

-- readings agree
reading_agree : (s : ℕ) (e : Expr) → Bounded e → Free e → (n : ℕ) → Agree n (Reading s e)
reading_agree s e h f zero y z a b t = up_to_zero y ∙ sym (up_to_zero z)
reading_agree s e h f (suc n) y z a b t =
    next_agree s e [] (Start s e) (start_one_way s e h f) n (rest_agree s e h f n) y z
    (begun_next s e y (reading_begun s e h y a))
    (begun_next s e z (reading_begun s e h z b))
    t

-- a part without a conflict is strongly deterministic
pub free_strong : (e : Expr) → Bounded e → Free e → StronglyDeterministic e
unfolding StronglyDeterministic
free_strong e h f n x y a b k l t = reading_agree 0 e h f n x y a b t
