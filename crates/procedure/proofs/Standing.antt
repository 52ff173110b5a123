-- From the entry of a node to the part that stands there: its kind and its children. Assumes nothing.
use mathlib.Core.Path.{◌≡◌, refl, sym, ap, subst, ◌∙◌}
use mathlib.Core.Logic.{inl, inr}
use Prim.Native.Nat.{ℕ, ◌+◌, ◌-◌, ◌≤◌, ◌<◌}
use native.Mathlib.Decide.{dec_lt}
use native.Mathlib.Omega.{arith}
use Rattle.meaning.specs.Expr.{Expr, empty, event, choice, sequence, repeat, size, root, Upper, Part}
use Rattle.meaning.specs.Node.{Node, node, Stands, InOrder, bound}
use Rattle.meaning.proofs.Expressions.Parts.{root-size}
use Rattle.procedure.specs.Entry.{code_of, kind_of, left_of, lower_of, upper_of}
use Rattle.procedure.specs.Listing.{Spans}

-- ---- the kind

abbrev pub kind_number : Expr → ℕ
kind_number empty = 0
kind_number (event c) = 1
kind_number (choice l r) = 2
kind_number (sequence l r) = 3
kind_number (repeat b lower upper) = 4

pub standing_kind : (g : ℕ → Node) (i s : ℕ) (e : Expr) → Stands g s e → root s e ≡ i → kind_of (g i) ≡ kind_number e
standing_kind g i s empty p h = ap (λ (j : ℕ). kind_of (g j)) (sym h) ∙ ap kind_of p
standing_kind g i s (event c) p h = ap (λ (j : ℕ). kind_of (g j)) (sym h) ∙ ap kind_of p
standing_kind g i s (choice l r) p h = ap (λ (j : ℕ). kind_of (g j)) (sym h) ∙ ap kind_of p.2
standing_kind g i s (sequence l r) p h = ap (λ (j : ℕ). kind_of (g j)) (sym h) ∙ ap kind_of p.2
standing_kind g i s (repeat b lower upper) p h = ap (λ (j : ℕ). kind_of (g j)) (sym h) ∙ ap kind_of p.1.1

-- ---- the children

-- the parts a and b stand from s on before node i, and `left` is the node of a
pub record Pair (g : ℕ → Node) (s i left : ℕ) (a b : Expr) : Type 0 where
  pub first : Stands g s a
  pub second : Stands g (s + size a) b
  pub first_at : root s a ≡ left
  pub next : s + size a ≡ left + 1
  pub second_at : root (s + size a) b ≡ i - 1
  pub here : s + size a + size b ≡ i

pair : (g : ℕ → Node) (s i left : ℕ) (a b : Expr) (k y : ℕ) → left ≡ left_of (g i) → Stands g s a → Stands g (s + size a) b
    → g (s + size a + size b) ≡ node k 0 (root s a) y 0 → s + size a + size b ≡ i → Pair g s i left a b
pair g s i left a b k y told p q e h =
    let at : root s a ≡ left = sym (ap left_of e) ∙ ap (λ (j : ℕ). left_of (g j)) h ∙ sym told in
    record {
      first = p;
      second = q;
      first_at = at;
      next = omega (arith, root-size s a);
      second_at = omega (arith, root-size (s + size a) b);
      here = h;
    }

-- what holds of a node of a kind holds of every part that stands there with it
module _ (g : ℕ → Node) (s i kind : ℕ) (told : kind ≡ kind_of (g i)) (C : Expr → Type 0) where
  pub at_leaf : kind < 2 → (i ≡ s → kind ≡ 0 → C empty) → ((c : ℕ) → i ≡ s → kind ≡ 1 → code_of (g i) ≡ c → C (event c))
      → (e : Expr) → Stands g s e → root s e ≡ i → C e
  at_leaf k a b e p h = go e p h (told ∙ standing_kind g i s e p h)
    where
      go : (e : Expr) → Stands g s e → root s e ≡ i → kind ≡ kind_number e → C e
      go empty p h m = a (sym h) m
      go (event c) p h m = b c (sym h) m (ap (λ (j : ℕ). code_of (g j)) (sym h) ∙ ap code_of p)
      go (choice l r) p h m = absurd (omega arith)
      go (sequence l r) p h m = absurd (omega arith)
      go (repeat d lower upper) p h m = absurd (omega arith)

  pub at_choice : (left : ℕ) → left ≡ left_of (g i) → kind ≡ 2 → ((a b : Expr) → Pair g s i left a b → C (choice a b))
      → (e : Expr) → Stands g s e → root s e ≡ i → C e
  at_choice left f k c e p h = go e p h (told ∙ standing_kind g i s e p h)
    where
      go : (e : Expr) → Stands g s e → root s e ≡ i → kind ≡ kind_number e → C e
      go empty p h m = absurd (omega arith)
      go (event d) p h m = absurd (omega arith)
      go (choice a b) p h m = c a b (pair g s i left a b 2 (root (s + size a) b) f p.0 p.1 p.2 h)
      go (sequence a b) p h m = absurd (omega arith)
      go (repeat d lower upper) p h m = absurd (omega arith)

  pub at_sequence : (left : ℕ) → left ≡ left_of (g i) → 2 ≤ kind → ¬ (kind ≡ 2) → ¬ (kind ≡ 4)
      → ((a b : Expr) → Pair g s i left a b → C (sequence a b)) → (e : Expr) → Stands g s e → root s e ≡ i → C e
  at_sequence left f k no_choice no_repeat c e p h = go e p h (told ∙ standing_kind g i s e p h)
    where
      go : (e : Expr) → Stands g s e → root s e ≡ i → kind ≡ kind_number e → C e
      go empty p h m = absurd (omega arith)
      go (event d) p h m = absurd (omega arith)
      go (choice a b) p h m = absurd (no_choice m)
      go (sequence a b) p h m = c a b (pair g s i left a b 3 (root (s + size a) b) f p.0 p.1 p.2 h)
      go (repeat d lower upper) p h m = absurd (no_repeat m)

  pub at_repeat : kind ≡ 4
      → ((b : Expr) → Stands g s b → root s b ≡ i - 1 → s + size b ≡ i → C (repeat b (lower_of (g i)) (bound (upper_of (g i)))))
      → (e : Expr) → Stands g s e → root s e ≡ i → C e
  at_repeat k c e p h = go e p h (told ∙ standing_kind g i s e p h)
    where
      go : (e : Expr) → Stands g s e → root s e ≡ i → kind ≡ kind_number e → C e
      go empty p h m = absurd (omega arith)
      go (event d) p h m = absurd (omega arith)
      go (choice a b) p h m = absurd (omega arith)
      go (sequence a b) p h m = absurd (omega arith)
      go (repeat b lower upper) p h m =
          let here : g i ≡ node 4 0 (root s b) lower p.1.0 = ap g (sym h) ∙ p.1.1 in
          let above : bound (upper_of (g i)) ≡ upper = ap (λ (n : Node). bound (upper_of n)) here ∙ sym p.1.2 in
          let below : lower_of (g i) ≡ lower = ap lower_of here in
          subst (λ (u : Upper). C (repeat b lower u)) above
          (subst (λ (n : ℕ). C (repeat b n (bound (upper_of (g i))))) below (c b p.0 (omega (arith, root-size s b)) h))

-- ---- where the nodes of a part are

pub part_start : (s : ℕ) (e : Expr) → s ≤ root s e
part_start s empty = omega arith
part_start s (event c) = omega arith
part_start s (choice l r) = omega arith
part_start s (sequence l r) = omega arith
part_start s (repeat b lower upper) = omega arith

-- a node that is no leaf has one before it, which is in order
pub last_order : (g : ℕ → Node) (i kind : ℕ) → kind ≡ kind_of (g i) → 2 ≤ kind → InOrder g i → InOrder g (i - 1) × (1 ≤ i)
last_order g i kind told k o = go o.1 o.2 o.3 (told ∙ standing_kind g i o.0 o.1 o.2 o.3)
  where
    s : ℕ
    s = o.0

    go : (e : Expr) → Stands g s e → root s e ≡ i → kind ≡ kind_number e → InOrder g (i - 1) × (1 ≤ i)
    go empty p h m = absurd (omega arith)
    go (event c) p h m = absurd (omega arith)
    go (choice a b) p h m = let e = root-size (s + size a) b in ((s + size a, b, p.1, omega arith), omega arith)
    go (sequence a b) p h m = let e = root-size (s + size a) b in ((s + size a, b, p.1, omega arith), omega arith)
    go (repeat b lower upper) p h m = let e = root-size s b in ((s, b, p.0, omega arith), omega arith)

-- a node with two children
pub at_pair : (D : Type 0) (g : ℕ → Node) (s i kind left : ℕ) → kind ≡ kind_of (g i) → left ≡ left_of (g i) → 2 ≤ kind → ¬ (kind ≡ 4)
    → ((a b : Expr) → Pair g s i left a b → D) → Spans g s i → D
at_pair D g s i kind left told f k no_repeat c part = go part.0 part.1 part.2 (told ∙ standing_kind g i s part.0 part.1 part.2)
  where
    go : (e : Expr) → Stands g s e → root s e ≡ i → kind ≡ kind_number e → D
    go empty p h m = absurd (omega arith)
    go (event d) p h m = absurd (omega arith)
    go (choice a b) p h m = c a b (pair g s i left a b 2 (root (s + size a) b) f p.0 p.1 p.2 h)
    go (sequence a b) p h m = c a b (pair g s i left a b 3 (root (s + size a) b) f p.0 p.1 p.2 h)
    go (repeat d lower upper) p h m = absurd (no_repeat m)

-- the left child stands below its parent
pub left_lower : (g : ℕ → Node) (i kind left : ℕ) → kind ≡ kind_of (g i) → left ≡ left_of (g i) → 2 ≤ kind → ¬ (kind ≡ 4) → InOrder g i → left < i
left_lower g i kind left told f k n o = at_pair (left < i) g o.0 i kind left told f k n (λ a b p. omega (arith, p.next, p.here)) (o.1, o.2, o.3)

-- a number below m, one below n, or neither
by_place : {C : Type 0} (j m n : ℕ) → (j < m → C) → (m ≤ j → j < n → C) → (n ≤ j → C) → C
by_place {C} j m n a b c = first (dec_lt j m)
  where
    second : m ≤ j → Dec (j < n) → C
    second h (yes l) = b h l
    second h (no l) = c (omega arith)

    first : Dec (j < m) → C
    first (yes l) = a l
    first (no l) = second (omega arith) (dec_lt j n)

-- a part of which P holds stands at node j
abbrev pub StandsWith : (ℕ → Node) → (Expr → Type 0) → ℕ → Type 0
StandsWith g P j = (t : ℕ) × (p : Expr) × P p × Stands g t p × (root t p ≡ j)

stands_as : {g : ℕ → Node} {P Q : Expr → Type 0} {j : ℕ} → ((p : Expr) → P p → Q p) → StandsWith g P j → StandsWith g Q j
stands_as f w = (w.0, w.1, f w.1 w.2, w.3, w.4)

-- every node of a part has one of its parts, which stands there
pub inner_part : (g : ℕ → Node) (s : ℕ) (e : Expr) → Stands g s e → (j : ℕ) → s ≤ j → j < s + size e → StandsWith g (Part s e j) j
inner_part g s empty st j a b = (s, empty, (omega arith, refl), st, omega arith)
inner_part g s (event c) st j a b = (s, event c, (omega arith, refl), st, omega arith)
inner_part g s (choice l r) st j a b =
    by_place j (s + size l) (s + size l + size r) (λ h. stands_as (λ p. inl) (inner_part g s l st.0 j a h))
    (λ h k. stands_as (λ p w. inr (inl w)) (inner_part g (s + size l) r st.1 j h k)) (λ h. (s, choice l r, inr (inr (omega arith, refl)), st, omega arith))
inner_part g s (sequence l r) st j a b =
    by_place j (s + size l) (s + size l + size r) (λ h. stands_as (λ p. inl) (inner_part g s l st.0 j a h))
    (λ h k. stands_as (λ p w. inr (inl w)) (inner_part g (s + size l) r st.1 j h k)) (λ h. (s, sequence l r, inr (inr (omega arith, refl)), st, omega arith))
inner_part g s (repeat d lower upper) st j a b =
    by_place j (s + size d) (s + size d) (λ h. stands_as (λ p. inl) (inner_part g s d st.0 j a h)) (λ h k. absurd (omega arith))
    (λ h. (s, repeat d lower upper, inr (omega arith, refl), st, omega arith))

-- so it is in order
pub inner_order : (g : ℕ → Node) (s : ℕ) (e : Expr) → Stands g s e → (j : ℕ) → s ≤ j → j < s + size e → InOrder g j
inner_order g s e st j a b = let w = inner_part g s e st j a b in (w.0, w.1, w.3, w.4)
