-- What a part takes of the numbers of items: the laws of Eats for a part that is passed by, an event, a choice and a sequence.
-- Each is over sets of readings, of which only the first item is known. Assumes nothing.
use mathlib.Core.Path.{◌≡◌, refl, sym, ap, subst, ◌∙◌}
use mathlib.Core.List.{List, [], ◌∷◌, ◌++◌, map}
use Prim.Native.Nat.{ℕ, ◌+◌, ◌*◌, ◌%◌, ◌≤◌, ◌<◌}
use native.Mathlib.Omega.{arith}
use Rattle.meaning.specs.Lists.{Nil, nil, One, one, Or, left, right, Cat, cat}
use Rattle.meaning.specs.Reading.{Item, place, opening, closing}
use Rattle.meaning.specs.Record.{item_node, item_number}
use Rattle.record.specs.Walk.{Inside, Outside, Remainder, from, nowhere, Eaten, Eats}
use Rattle.meaning.proofs.Expressions.ReadingHeads.{Heads}

-- ---- the node that a number names

number_node : (a : Item) → item_node a < 4096 → item_number a % 4096 ≡ item_node a
number_node (place i c) h = omega arith
number_node (opening r) h = omega arith
number_node (closing r) h = omega arith

-- numbers that begin with the first item of a reading begin inside the part
inside_item : (s i : ℕ) (a : Item) (n : ℕ) → i < 4096 → (s ≤ item_node a) × (item_node a ≤ i) → n ≡ item_number a → Inside s i n
inside_item s i a n l h e = let k = number_node a (omega arith) in (subst (λ (m : ℕ). s ≤ m % 4096) (sym e) (omega arith), subst (λ (m : ℕ). m % 4096 ≤ i) (sym e) (omega arith))

-- what does not begin inside the whole does not begin inside a part of it
outside_narrow : (s t i j : ℕ) (w : List ℕ) → s ≤ t → j ≤ i → Outside s i w → Outside t j w
outside_narrow s t i j [] a b h = tt
outside_narrow s t i j (n ∷ w) a b h = λ p. h (omega arith)

-- nor do the items of a part that lies apart, and what follows them
outside_apart : (s i t j : ℕ) (x : List Item) (w : List ℕ) → j < 4096 → i < t → Heads t j x → Outside s i w → Outside s i (map item_number x ++ w)
outside_apart s i t j [] w l h a o = o
outside_apart s i t j (y ∷ x) w l h a o = λ p. let k = inside_item t j y (item_number y) l a refl in omega arith

pub map_append : (x y : List Item) (t : List ℕ) → map item_number (x ++ y) ++ t ≡ map item_number x ++ (map item_number y ++ t)
map_append [] y t = refl
map_append (a ∷ x) y t = ap {B = List ℕ} (λ w. item_number a ∷ w) (map_append x y t)

head_same : (m n : ℕ) (u v : List ℕ) → ◌≡◌ {A = List ℕ} (m ∷ u) (n ∷ v) → m ≡ n
head_same m n u v e = cc

-- ---- a part that is passed by

module _ (P : List Item → Type 0) (s i : ℕ) (small : i < 4096) (heads : (x : List Item) → P x → Heads s i x) where
  -- a reading that the numbers begin with is empty, where they do not begin inside the part
  only_empty : (w : List ℕ) → Outside s i w → (x : List Item) (t : List ℕ) → P x → w ≡ map item_number x ++ t → (P []) × (t ≡ w)
  only_empty w o [] t p e = (p, sym e)
  only_empty [] o (a ∷ x) t p e = let z : ◌≡◌ {A = ℕ} 0 1 = cc in absurd (omega arith)
  only_empty (n ∷ w) o (a ∷ x) t p e =
      absurd (o (inside_item s i a n small (heads (a ∷ x) p) (head_same n (item_number a) w (map item_number x ++ t) e)))

  pub eats_nothing : (w : List ℕ) → P [] → Outside s i w → Eats P s i w (from w)
  eats_nothing w p o = record {
    eaten = ([], p, refl);
    only = λ x t q e h. ap from (sym (only_empty w o x t q e).1);
  }

  pub eats_nowhere : (w : List ℕ) → ¬ P [] → Outside s i w → Eats P s i w nowhere
  eats_nowhere w p o = record {
    eaten = tt;
    only = λ x t q e h. absurd (p (only_empty w o x t q e).0);
  }

-- ---- a leaf

pub empty_nowhere : (s n : ℕ) (w u : List ℕ) → w ≡ n ∷ u → Inside s s n → Eats Nil s s w nowhere
empty_nowhere s n w u c h = record { eaten = tt; only = go }
  where
    go : (x : List Item) (t : List ℕ) → Nil x → w ≡ map item_number x ++ t → Outside s s t → nowhere ≡ from t
    go x t nil e o = absurd (subst (Outside s s) (sym e ∙ c) o h)

-- the one reading of an event is that event, with mark 0
pub event_taken : (s c n : ℕ) (w u : List ℕ) → w ≡ n ∷ u → n ≡ s → Eats (One (place s c)) s s w (from u)
event_taken s c n w u h k = record {
  eaten = (place s c ∷ [], one, h ∙ ap {B = List ℕ} (λ m. m ∷ u) (k ∙ omega arith));
  only = go;
}
  where
    go : (x : List Item) (t : List ℕ) → One (place s c) x → w ≡ map item_number x ++ t → Outside s s t → from u ≡ from t
    go x t one e o = cc

pub event_nowhere : (s c n : ℕ) (w u : List ℕ) → w ≡ n ∷ u → ¬ (n ≡ s) → Eats (One (place s c)) s s w nowhere
event_nowhere s c n w u h k = record { eaten = tt; only = go }
  where
    go : (x : List Item) (t : List ℕ) → One (place s c) x → w ≡ map item_number x ++ t → Outside s s t → nowhere ≡ from t
    go x t one e o = absurd (k (head_same n (s + 4096 * 0) u t (sym h ∙ e) ∙ omega arith))

-- ---- a choice, and a sequence

eaten_map : {P Q : List Item → Type 0} (f : (x : List Item) → P x → Q x) (w : List ℕ) (r : Remainder) → Eaten P w r → Eaten Q w r
eaten_map f w (from v) a = (a.0, f a.0 a.1, a.2)
eaten_map f w nowhere a = tt

-- P has the readings of the left, whose nodes are s to m; Q those of the right, whose nodes are t to j; both below i
pub record Sides (P Q : List Item → Type 0) (s m t j i : ℕ) : Type 0 where
  pub next : t ≡ m + 1
  pub begun : s ≤ m
  pub up : j < i
  pub below : m < i
  pub small : i < 4096
  pub left_heads : (x : List Item) → P x → Heads s m x
  pub right_heads : (x : List Item) → Q x → Heads t j x

module _ {P Q : List Item → Type 0} {s m t j i : ℕ} (sides : Sides P Q s m t j i) where
  -- a reading cannot begin with a number that lies in the whole and not in its own part
  not_here : (R : List Item → Type 0) (a b : ℕ) → b ≤ i → ((x : List Item) → R x → Heads a b x) → (n : ℕ) (w u : List ℕ) → w ≡ n ∷ u
      → Inside s i n → ¬ Inside a b n → (x : List Item) (v : List ℕ) → R x → w ≡ map item_number x ++ v → Outside s i v → ⊥
  not_here R a b l heads n w u c h k [] v p e o = subst (Outside s i) (sym e ∙ c) o h
  not_here R a b l heads n w u c h k (y ∷ x) v p e o =
      k (inside_item a b y n (omega arith) (heads (y ∷ x) p) (head_same n (item_number y) u (map item_number x ++ v) (sym c ∙ e)))

  pub choice_left : (n : ℕ) (w u : List ℕ) (r : Remainder) → w ≡ n ∷ u → Inside s m n → Eats P s m w r → Eats (Or P Q) s i w r
  choice_left n w u r c h a = record {
    eaten = eaten_map (λ x. left) w r a.eaten;
    only = go;
  }
    where
      go : (x : List Item) (v : List ℕ) → Or P Q x → w ≡ map item_number x ++ v → Outside s i v → r ≡ from v
      go x v (left p) e o = a.only x v p e (outside_narrow s s i m v (omega arith) (omega arith) o)
      go x v (right q) e o = absurd (not_here Q t j (omega arith) sides.right_heads n w u c (omega arith) (λ k. omega arith) x v q e o)

  pub choice_right : (n : ℕ) (w u : List ℕ) (r : Remainder) → w ≡ n ∷ u → Inside s i n → ¬ Inside s m n → Eats Q t j w r → Eats (Or P Q) s i w r
  choice_right n w u r c h k a = record {
    eaten = eaten_map (λ x. right) w r a.eaten;
    only = go;
  }
    where
      go : (x : List Item) (v : List ℕ) → Or P Q x → w ≡ map item_number x ++ v → Outside s i v → r ≡ from v
      go x v (left p) e o = absurd (not_here P s m (omega arith) sides.left_heads n w u c h k x v p e o)
      go x v (right q) e o = a.only x v q e (outside_narrow s t i j v (omega arith) (omega arith) o)

  -- what the left leaves, where a reading of the right follows
  left_leaves : (w : List ℕ) (r : Remainder) → Eats P s m w r → (y z : List Item) (u : List ℕ) → P y → Q z → w ≡ map item_number (y ++ z) ++ u
      → Outside s i u → r ≡ from (map item_number z ++ u)
  left_leaves w r a y z u p q e o =
      a.only y (map item_number z ++ u) p (e ∙ map_append y z u)
      (outside_apart s m t j z u (omega arith) (omega arith) (sides.right_heads z q) (outside_narrow s s i m u (omega arith) (omega arith) o))

  pub sequence_both : (w v : List ℕ) (r : Remainder) → Eats P s m w (from v) → Eats Q t j v r → Eats (Cat P Q) s i w r
  sequence_both w v r a b = record { eaten = both r b.eaten; only = go }
    where
      both : (r : Remainder) → Eaten Q v r → Eaten (Cat P Q) w r
      both (from u) k =
          let x = a.eaten.0 in
          let y = k.0 in
          let e : w ≡ map item_number (x ++ y) ++ u = a.eaten.2 ∙ ap (λ (z : List ℕ). map item_number x ++ z) k.2 ∙ sym (map_append x y u) in
          (x ++ y, cat x y a.eaten.1 k.1, e)
      both nowhere k = tt

      go : (x : List Item) (u : List ℕ) → Cat P Q x → w ≡ map item_number x ++ u → Outside s i u → r ≡ from u
      go x u (cat y z p q) e o =
          let l : from v ≡ from (map item_number z ++ u) = left_leaves w (from v) a y z u p q e o in
          let k : v ≡ map item_number z ++ u = cc in
          b.only z u q k (outside_narrow s t i j u (omega arith) (omega arith) o)

  pub sequence_nowhere : (w : List ℕ) → Eats P s m w nowhere → Eats (Cat P Q) s i w nowhere
  sequence_nowhere w a = record { eaten = tt; only = go }
    where
      go : (x : List Item) (u : List ℕ) → Cat P Q x → w ≡ map item_number x ++ u → Outside s i u → nowhere ≡ from u
      go x u (cat y z p q) e o =
          let l : nowhere ≡ from (map item_number z ++ u) = left_leaves w nowhere a y z u p q e o in
          let c : ◌≡◌ {A = ℕ} 0 1 = cc in
          absurd (omega arith)
