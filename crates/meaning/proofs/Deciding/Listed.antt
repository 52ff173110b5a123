-- Properties with a finite list of exactly what they hold of, and how such lists are made from one another.
-- The lists are plain data and compute; what they mean is proved beside them.
use mathlib.Core.Path.{◌≡◌, refl, sym, subst, subst⁻¹}
use mathlib.Core.Logic.{◌⊎◌, inl, inr, ⊎_elim, ite}
use mathlib.Core.List.{List, [], ◌∷◌, ◌++◌, flat_map, filter}
use Prim.Native.Nat.{ℕ, ◌≤◌}
use native.Mathlib.Decide.{dec_le}
use native.Mathlib.Omega.{arith}

module _ {A : Type 0} where
  -- the element is in the list
  abbrev pub Member : A → List A → Type 0
  Member a [] = ⊥
  Member a (b ∷ x) = (a ≡ b) ⊎ Member a x

  -- an element of two lists, one after the other, is in one of them
  pub member-append : (a : A) (x y : List A) → Member a (x ++ y) → Member a x ⊎ Member a y
  member-append a [] y h = inr h
  member-append a (b ∷ x) y (inl e) = inl (inl e)
  member-append a (b ∷ x) y (inr h) = ⊎_elim (λ k. inl (inr k)) inr (member-append a x y h)

  pub append-member : (a : A) (x y : List A) → Member a x ⊎ Member a y → Member a (x ++ y)
  append-member a [] y (inl h) = absurd h
  append-member a [] y (inr h) = h
  append-member a (b ∷ x) y (inl (inl e)) = inl e
  append-member a (b ∷ x) y (inl (inr h)) = inr (append-member a x y (inl h))
  append-member a (b ∷ x) y (inr h) = inr (append-member a x y (inr h))

module _ {A : Type 0} {Q : A → Type 0} (d : (a : A) → Dec (Q a)) where
  -- a list that keeps what has a decided property holds exactly those elements
  pub member_filter : (a : A) (x : List A) → Member a (filter d x) → Member a x × Q a
  member_filter a [] h = absurd h
  member_filter a (b ∷ x) h = go (member_filter a x) (d b) h
    where
      go : (Member a (filter d x) → Member a x × Q a) → (k : Dec (Q b)) → Member a (ite k (b ∷ filter d x) (filter d x)) → Member a (b ∷ x) × Q a
      go on (yes q) (inl e) = (inl e, subst Q (sym e) q)
      go on (yes q) (inr m) = (inr (on m).0, (on m).1)
      go on (no n) m = (inr (on m).0, (on m).1)

  pub filter-member : (a : A) (x : List A) → Member a x → Q a → Member a (filter d x)
  filter-member a [] h q = absurd h
  filter-member a (b ∷ x) h q = go (λ m. filter-member a x m q) (d b) h
    where
      go : (Member a x → Member a (filter d x)) → (k : Dec (Q b)) → Member a (b ∷ x) → Member a (ite k (b ∷ filter d x) (filter d x))
      go on (yes p) (inl e) = inl e
      go on (yes p) (inr m) = inr (on m)
      go on (no n) (inl e) = absurd (n (subst Q e q))
      go on (no n) (inr m) = on m

module _ {A B : Type 0} (f : A → List B) where
  -- the lists of a list's elements, one after the other, hold exactly what one of them holds
  pub member-flat : (b : B) (x : List A) → Member b (flat_map f x) → (a : A) × Member a x × Member b (f a)
  unfolding flat_map
  member-flat b [] h = absurd h
  member-flat b (a ∷ x) h = go (member-flat b x) (member-append b (f a) (flat_map f x) h)
    where
      go : (Member b (flat_map f x) → (c : A) × Member c x × Member b (f c)) → Member b (f a) ⊎ Member b (flat_map f x)
          → (c : A) × Member c (a ∷ x) × Member b (f c)
      go on (inl h) = (a, inl refl, h)
      go on (inr h) = let t = on h in (t.0, inr t.1, t.2)

  pub flat-member : (a : A) (b : B) (x : List A) → Member a x → Member b (f a) → Member b (flat_map f x)
  unfolding flat_map
  flat-member a b [] m h = absurd m
  flat-member a b (c ∷ x) (inl e) h = append-member b (f c) (flat_map f x) (inl (subst (λ t. Member b (f t)) e h))
  flat-member a b (c ∷ x) (inr m) h = append-member b (f c) (flat_map f x) (inr (flat-member a b x m h))

-- the property holds of exactly what the list holds
pub record Listed {A : Type 0} (P : A → Type 0) : Type 0 where
  pub items : List A
  pub sound : (a : A) → Member a items → P a
  pub complete : (a : A) → P a → Member a items

module _ {A : Type 0} where
  -- what holds of nothing
  unfoldable pub nothing : {P : A → Type 0} → ((a : A) → ¬ P a) → Listed P
  nothing n = record { items = []; sound = λ a h. absurd h; complete = n }

  -- one element alone
  unfoldable pub only : (b : A) → Listed (λ a. a ≡ b)
  only b = record { items = b ∷ []; sound = λ a. ⊎_elim (λ e. e) absurd; complete = λ a. inl }

  -- one property or the other
  unfoldable pub either : {P Q : A → Type 0} → Listed P → Listed Q → Listed (λ a. P a ⊎ Q a)
  either l m =
      record {
        items = l.items ++ m.items;
        sound = λ a h. ⊎_elim (λ k. inl (l.sound a k)) (λ k. inr (m.sound a k)) (member-append a l.items m.items h);
        complete = λ a h. append-member a l.items m.items (⊎_elim (λ k. inl (l.complete a k)) (λ k. inr (m.complete a k)) h);
      }

  -- a property and a decided one
  unfoldable pub kept : {P Q : A → Type 0} → Listed P → ((a : A) → Dec (Q a)) → Listed (λ a. P a × Q a)
  kept l d =
      record {
        items = filter d l.items;
        sound = λ a h. let t = member_filter d a l.items h in (l.sound a t.0, t.1);
        complete = λ a h. filter-member d a l.items (l.complete a h.0) h.1;
      }

  -- the same property in other words
  unfoldable pub same : {P Q : A → Type 0} → Listed P → ((a : A) → P a → Q a) → ((a : A) → Q a → P a) → Listed Q
  same l f g = record { items = l.items; sound = λ a h. f a (l.sound a h); complete = λ a h. l.complete a (g a h) }

  -- a property, if a decided fact holds
  unfoldable pub given : {B : Type 0} {P : A → Type 0} → Dec B → Listed P → Listed (λ a. B × P a)
  unfolding kept same
  given d l = same (kept l (λ a. d)) (λ a h. (h.1, h.0)) (λ a h. (h.1, h.0))

module _ {A B : Type 0} where
  -- what goes with some element that has the property
  unfoldable pub each : {P : A → Type 0} {Q : A → B → Type 0} → Listed P → ((a : A) → Listed (Q a)) → Listed (λ b. (a : A) × P a × Q a b)
  unfolding flat_map
  each l f =
      record {
        items = flat_map (λ a. (f a).items) l.items;
        sound = λ b h. let t = member-flat (λ a. (f a).items) b l.items h in (t.0, l.sound t.0 t.1, (f t.0).sound b t.2);
        complete = λ b h. flat-member (λ a. (f a).items) h.0 b l.items (l.complete h.0 h.1) ((f h.0).complete b h.2);
      }

  -- the values of a function where the property holds
  unfoldable pub mapped : {P : A → Type 0} (f : A → B) → Listed P → Listed (λ b. (a : A) × P a × (b ≡ f a))
  unfolding each only
  mapped f l = each l (λ a. only (f a))

  -- a property of exactly those values
  unfoldable pub image : {P : A → Type 0} {Q : B → Type 0} (f : A → B) → Listed P → ((a : A) → P a → Q (f a)) → ((b : B) → Q b → (a : A) × P a × (b ≡ f a))
      → Listed Q
  unfolding same mapped
  image {Q = Q} f l to from = same (mapped f l) (λ b h. subst Q (sym h.2) (to h.0 h.1)) from

-- a fact decided by another that holds exactly if it does
unfoldable pub decided : {A B : Type 0} → (A → B) → (B → A) → Dec A → Dec B
decided f g (yes a) = yes (f a)
decided f g (no n) = no (λ b. n (g b))

module _ {A : Type 0} where
  -- whether an element is in a list, where elements can be told apart
  member_decided : Discrete A → (a : A) (x : List A) → Dec (Member a x)
  member_decided d a [] = no (λ h. h)
  member_decided d a (b ∷ x) = go (d a b) (member_decided d a x)
    where
      go : Dec (a ≡ b) → Dec (Member a x) → Dec (Member a (b ∷ x))
      go (yes e) k = yes (inl e)
      go (no n) (yes h) = yes (inr h)
      go (no n) (no m) = no (⊎_elim n m)

module _ {A : Type 0} {P : A → Type 0} where
  -- whether the property holds of anything
  some_in : (x : List A) → ((a : A) → Member a x → P a) → ((a : A) → P a → Member a x) → Dec ((a : A) × P a)
  some_in [] f g = no (λ h. g h.0 h.1)
  some_in (a ∷ x) f g = yes (a, f a (inl refl))

  unfoldable pub some : Listed P → Dec ((a : A) × P a)
  unfolding some_in
  some l = some_in l.items l.sound l.complete

  -- whether the property holds of an element, where elements can be told apart
  unfoldable pub holds : Discrete A → Listed P → (a : A) → Dec (P a)
  unfolding decided member_decided
  holds d l a = decided (l.sound a) (l.complete a) (member_decided d a l.items)

  -- the least of some that have the property, by a number of each
  least_in : (f : A → ℕ) (x : List A) → ((a : A) → Member a x → P a) → (a : A) → P a
      → (m : A) × P m × (f m ≤ f a) × ((b : A) → Member b x → f m ≤ f b)
  least_in f [] s a p = (a, p, omega arith, λ b h. absurd h)
  least_in f (c ∷ x) s a p = let t = least_in f x (λ b h. s b (inr h)) a p in go t.0 t.1 t.2 t.3 (dec_le (f t.0) (f c))
    where
      go : (m : A) → P m → f m ≤ f a → ((b : A) → Member b x → f m ≤ f b) → Dec (f m ≤ f c)
          → (n : A) × P n × (f n ≤ f a) × ((b : A) → Member b (c ∷ x) → f n ≤ f b)
      go m q l rest (yes h) = (m, q, l, λ b. ⊎_elim (λ e. subst⁻¹ (λ z. f m ≤ f z) e h) (rest b))
      go m q l rest (no h) = (c, s c (inl refl), omega arith, λ b. ⊎_elim (λ e. subst⁻¹ (λ z. f c ≤ f z) e (omega arith)) (λ k. omega (arith, rest b k)))

  -- where the property holds of something, it holds of one with the least number
  pub least : (f : A → ℕ) → Listed P → (a : A) → P a → (m : A) × P m × ((b : A) → P b → f m ≤ f b)
  least f l a p = let t = least_in f l.items l.sound a p in (t.0, t.1, λ b q. t.3 b (l.complete b q))
