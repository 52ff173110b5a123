-- What a part lays of the codes of a run: the laws of Lays for a part that is passed by, an event, a choice and a sequence. Without
-- a conflict the next code says which side it belongs to. Assumes nothing.
use mathlib.Core.Path.{◌≡◌, refl, sym, ap, subst, ◌∙◌}
use mathlib.Core.Logic.{inl, inr}
use mathlib.Core.Bool.{So}
use mathlib.Core.List.{List, [], ◌∷◌, ◌++◌, append-nil, head-eq_of_cons-eq, tail-eq_of_cons-eq}
use Prim.Native.Nat.{ℕ, ◌+◌, ◌≤◌}
use native.Mathlib.Omega.{arith}
use lib.ListN.{length}
use Rattle.meaning.specs.Expr.{Expr, event, choice, sequence, size}
use Rattle.meaning.specs.Lists.{one, One, Or, left, right, Cat, cat}
use Rattle.meaning.specs.Normal.{nullable}
use Rattle.meaning.specs.Reading.{Item, place, codes, Reading}
use Rattle.meaning.specs.Sets.{First, After}
use Rattle.meaning.specs.Theory.Conflicts.{Free}
use Rattle.meaning.proofs.General.Facts.{append_cut}
use Rattle.meaning.proofs.Expressions.Items.{codes-append, events_append, no_event_append}
use Rattle.write.specs.Lay.{Detached, Division, into, never, Divided, Lays}
use Rattle.meaning.proofs.Expressions.ReadingHeads.{empty_reading, reading_first, no_codes, no_codes_null}

-- codes are none, or begin with one
pub by_first : {C : Type 0} (w : List ℕ) → (w ≡ [] → C) → ((c : ℕ) (u : List ℕ) → w ≡ c ∷ u → C) → C
by_first [] a b = a refl
by_first (c ∷ u) a b = b c u refl

pub same_division : (x y : List Item) (v t : List ℕ) → x ≡ y → v ≡ t → into x v ≡ into y t
same_division x y v t h k = λ i. into (h i) (k i)

-- what does not continue a part does not continue one with less in first and in after
detached_less : (e f : Expr) (x y : List Item) (t : List ℕ) → ((c : ℕ) → First e c → First f c) → ((c : ℕ) → After e c → After f c)
    → codes y ≡ codes x → Detached f y t → Detached e x t
detached_less e f x y [] a b q h = tt
detached_less e f x y (c ∷ t) a b q h =
    (λ n k. h.0 (q ∙ n) (a c k), λ l k. h.1 (subst (λ (z : List ℕ). 1 ≤ length z) (sym q) l) (b c k))

-- ---- a part that is passed by

-- the codes do not begin with one of first
abbrev pub Unbegun : Expr → List ℕ → Type 0
Unbegun e [] = Unit {0}
Unbegun e (c ∷ w) = ¬ First e c

module _ (s : ℕ) (e : Expr) (w : List ℕ) (o : Unbegun e w) where
  only_empty : (x : List Item) (t : List ℕ) → Reading s e x → w ≡ codes x ++ t → x ≡ []
  only_empty x t p k =
      by_first (codes x) (no_codes s e x p)
      (λ c u h. absurd (subst (Unbegun e) (k ∙ ap (λ (z : List ℕ). z ++ t) h) o (reading_first s e x c u p h)))

  pub lays_nothing : So (nullable e) → Lays (Reading s e) e w (into [] w)
  lays_nothing null = record {
    divided = (empty_reading s e null, refl);
    only = λ x t p k h. let n = only_empty x t p k in same_division [] x w t (sym n) (k ∙ ap (λ (z : List Item). codes z ++ t) n);
  }

  pub lays_never : ¬ So (nullable e) → Lays (Reading s e) e w never
  lays_never null = record {
    divided = tt;
    only = λ x t p k h. absurd (null (no_codes_null s e x p (ap codes (only_empty x t p k))));
  }

-- ---- an event

pub lays_event : (s c d : ℕ) (u : List ℕ) → First (event c) d → Lays (Reading s (event c)) (event c) (d ∷ u) (into (place s c ∷ []) u)
lays_event s c d u f = record { divided = (one, ap {B = List ℕ} (λ k. k ∷ u) f); only = go }
  where
    go : (x : List Item) (t : List ℕ) → One (place s c) x → ◌≡◌ {A = List ℕ} (d ∷ u) (codes x ++ t) → Detached (event c) x t → into (place s c ∷ []) u ≡ into x t
    go x t one k h = same_division (place s c ∷ []) (place s c ∷ []) u t refl (tail-eq_of_cons-eq k)

-- ---- a choice

-- the code is in first of the whole, and not in that of the side
wrong_side : (s : ℕ) (side whole : Expr) (c : ℕ) (u : List ℕ) → First whole c → ¬ First side c
    → (x : List Item) (t : List ℕ) → Reading s side x → ◌≡◌ {A = List ℕ} (c ∷ u) (codes x ++ t) → Detached whole x t → ⊥
wrong_side s side whole c u f out x t p k h =
    by_first (codes x)
    (λ n. let e : c ∷ u ≡ t = k ∙ ap (λ (z : List ℕ). z ++ t) n in (subst (Detached whole x) (sym e) h).0 n f)
    (λ d v n. let e : ◌≡◌ {A = List ℕ} (c ∷ u) (d ∷ (v ++ t)) = k ∙ ap (λ (z : List ℕ). z ++ t) n in
    out (subst (First side) (sym (head-eq_of_cons-eq e)) (reading_first s side x d v p n)))

divided_map : {P Q : List Item → Type 0} (f : (x : List Item) → P x → Q x) (w : List ℕ) (r : Division) → Divided P w r → Divided Q w r
divided_map f w (into x v) a = (f x a.0, a.1)
divided_map f w never a = tt

module _ (s : ℕ) (l r : Expr) (c : ℕ) (u : List ℕ) (q : Division) where
  pub choice_left : Free (choice l r) → First l c → Lays (Reading s l) l (c ∷ u) q → Lays (Reading s (choice l r)) (choice l r) (c ∷ u) q
  choice_left free f a = record { divided = divided_map (λ x. left) (c ∷ u) q a.divided; only = go }
    where
      go : (x : List Item) (t : List ℕ) → Or (Reading s l) (Reading (s + size l) r) x → ◌≡◌ {A = List ℕ} (c ∷ u) (codes x ++ t)
          → Detached (choice l r) x t → q ≡ into x t
      go x t (left p) k h = a.only x t p k (detached_less l (choice l r) x x t (λ d. inl) (λ d. inl) refl h)
      go x t (right p) k h = absurd (wrong_side (s + size l) r (choice l r) c u (inl f) (λ g. free.2 1 c (refl, f, g)) x t p k h)

  pub choice_right : First r c → ¬ First l c → Lays (Reading (s + size l) r) r (c ∷ u) q → Lays (Reading s (choice l r)) (choice l r) (c ∷ u) q
  choice_right f out a = record { divided = divided_map (λ x. right) (c ∷ u) q a.divided; only = go }
    where
      go : (x : List Item) (t : List ℕ) → Or (Reading s l) (Reading (s + size l) r) x → ◌≡◌ {A = List ℕ} (c ∷ u) (codes x ++ t)
          → Detached (choice l r) x t → q ≡ into x t
      go x t (left p) k h = absurd (wrong_side s l (choice l r) c u (inr f) out x t p k h)
      go x t (right p) k h = a.only x t p k (detached_less r (choice l r) x x t (λ d. inr) (λ d. inr) refl h)

-- ---- a sequence

-- the items of the left stand before what the right lays
abbrev pub onto : List Item → Division → Division
onto x (into y v) = into (x ++ y) v
onto x never = never

module _ (s : ℕ) (l r : Expr) (free : Free (sequence l r)) where
  -- a reading of the sequence, and what comes next
  module _ (y z : List Item) (p : Reading s l y) (q : Reading (s + size l) r z) where
    detached_left : (t : List ℕ) → Detached (sequence l r) (y ++ z) t → Detached l y (codes z ++ t)
    detached_left t h =
        by_first (codes z)
        (λ n. subst (Detached l y) (sym (ap (λ (k : List ℕ). k ++ t) n))
        (detached_less l (sequence l r) y (y ++ z) t (λ c. inl) (λ c a. inr (no_codes_null (s + size l) r z q n, inl a))
        (codes-append y z ∙ ap (λ (k : List ℕ). codes y ++ k) n ∙ append-nil (codes y)) h))
        (λ c u n.
        let f = reading_first (s + size l) r z c u q n in
        subst (Detached l y) (sym (ap (λ (k : List ℕ). k ++ t) n))
        (λ m g. free.2 2 c (inl (refl, no_codes_null s l y p m, g, f)), λ m g. free.2 3 c (inr (refl, g, f))))

    detached_right : (t : List ℕ) → Detached (sequence l r) (y ++ z) t → Detached r z t
    detached_right [] h = tt
    detached_right (c ∷ t) h = (
      λ n f. by_first (codes y) (λ m. h.0 (no_event_append y z m n) (inr (no_codes_null s l y p m, f)))
          (λ d u m.
          let k : length (codes y) ≡ length (d ∷ u) = ap length m in
          h.1 (omega (arith, events_append y z)) (inr (no_codes_null (s + size l) r z q n, inr ((d, reading_first s l y d u p m), f)))),
      λ m a. h.1 (omega (arith, events_append y z)) (inl a),
    )

  pub sequence_both : (w v : List ℕ) (x : List Item) (q : Division) → Lays (Reading s l) l w (into x v) → Lays (Reading (s + size l) r) r v q
      → Lays (Reading s (sequence l r)) (sequence l r) w (onto x q)
  sequence_both w v x q a b = record { divided = both q b.divided; only = go }
    where
      both : (q : Division) → Divided (Reading (s + size l) r) v q → Divided (Reading s (sequence l r)) w (onto x q)
      both (into y u) k =
          (cat x y a.divided.0 k.0, a.divided.1 ∙ ap (λ (z : List ℕ). codes x ++ z) k.1 ∙ sym (append_cut (codes (x ++ y)) (codes x) (codes y) u (codes-append x y)))
      both never k = tt

      go : (j : List Item) (t : List ℕ) → Cat (Reading s l) (Reading (s + size l) r) j → w ≡ codes j ++ t → Detached (sequence l r) j t → onto x q ≡ into j t
      go j t (cat y z p g) k h =
          let m : into x v ≡ into y (codes z ++ t) =
          a.only y (codes z ++ t) p (k ∙ append_cut (codes (y ++ z)) (codes y) (codes z) t (codes-append y z)) (detached_left y z p g t h) in
          let same : x ≡ y = cc in
          let rest : v ≡ codes z ++ t = cc in
          let n : q ≡ into z t = b.only z t g rest (detached_right y z p g t h) in
          λ i. onto (same i) (n i)

  pub sequence_never : (w : List ℕ) → Lays (Reading s l) l w never → Lays (Reading s (sequence l r)) (sequence l r) w never
  sequence_never w a = record { divided = tt; only = go }
    where
      go : (j : List Item) (t : List ℕ) → Cat (Reading s l) (Reading (s + size l) r) j → w ≡ codes j ++ t → Detached (sequence l r) j t → never ≡ into j t
      go j t (cat y z p g) k h =
          let m : never ≡ into y (codes z ++ t) =
          a.only y (codes z ++ t) p (k ∙ append_cut (codes (y ++ z)) (codes y) (codes z) t (codes-append y z)) (detached_left y z p g t h) in
          let c : ◌≡◌ {A = ℕ} 0 1 = cc in
          absurd (omega arith)
