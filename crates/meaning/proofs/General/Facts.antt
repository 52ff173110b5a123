-- General facts on numbers, tests, lists and sets of lists.
use mathlib.Core.Path.{◌≡◌, refl, sym, ap, ◌∙◌, subst}
use mathlib.Core.Logic.{◌↔◌, ◌⊎◌, inl, inr, ⊎_elim}
use mathlib.Core.Bool.{Bool, true, false, not, ◌||◌, So, false≢true}
use mathlib.Core.List.{List, [], ◌∷◌, ◌++◌, append_assoc, append-nil, append_cancel_right, head-eq_of_cons-eq, tail-eq_of_cons-eq}
use Prim.Native.Nat.{ℕ, zero, suc, ◌+◌, ◌-◌, ◌≤◌, ◌<◌, max}
use native.Mathlib.Decide.{dec_lt}
use native.Mathlib.Omega.{arith}
use lib.Dec.{T, leb, eqb, leb→le, le→leb, nleb→lt, eqb→eq, eqb_refl}
use lib.ListN.{length, take, length-append}
use Rattle.meaning.specs.Expr.{Upper, upto, endless, Within}
use Rattle.meaning.specs.Lists.{Or, left, right, Cat, cat, Power, none, more}
use Rattle.meaning.specs.Normal.{is_zero, low}

-- ---- tests and sums

-- one of two tests holds
pub so_or : (a b : Bool) → So (a || b) ↔ (So a ⊎ So b)
so_or true b = (λ h. inl refl, λ h. refl)
so_or false b = (λ h. inr h, ⊎_elim (λ h. absurd (false≢true h)) (λ h. h))

-- the parts of a sum may be exchanged for equivalent ones
pub iff_sum : {A B C D : Type 0} → A ↔ C → B ↔ D → (A ⊎ B) ↔ (C ⊎ D)
iff_sum f g = (⊎_elim (λ a. inl (f.0 a)) (λ b. inr (g.0 b)), ⊎_elim (λ c. inl (f.1 c)) (λ d. inr (g.1 d)))

-- ---- bounds

-- what is at most a number within the upper bound is within it
pub within_le : (i j : ℕ) (upper : Upper) → i ≤ j → Within j upper → Within i upper
within_le i j (upto n) h k = omega arith
within_le i j endless h k = tt

-- the larger of two numbers within the upper bound is within it
pub within_max : (i j : ℕ) (upper : Upper) → Within i upper → Within j upper → Within (max i j) upper
within_max i j (upto n) h k = omega arith
within_max i j endless h k = tt

-- filled up to a bound that is within the upper bound, a number stays within it
pub within_pad : (l k : ℕ) (upper : Upper) → Within l upper → Within k upper → Within (k + (l - k)) upper
within_pad l k (upto n) a b = omega arith
within_pad l k endless a b = tt

-- the normal-form lower bound is at most the lower bound as written
pub low_le : (n : Bool) (lower : ℕ) → low n lower ≤ lower
low_le true lower = omega arith
low_le false lower = omega arith

-- so it is within the upper bound
pub low_within : (b : Bool) (lower : ℕ) (upper : Upper) → Within lower upper → Within (low b lower) upper
low_within b lower upper h = within_le _ _ upper (low_le b lower) h

-- the normal-form lower bound is 0 exactly if the repeat may be empty
pub low_zero : (n : Bool) (lower : ℕ) → low n lower ≤ 0 → So (is_zero lower || n)
low_zero true lower h = (so_or (is_zero lower) true).1 (inr refl)
low_zero false zero h = refl
low_zero false (suc k) h = absurd (omega arith)

pub zero_low : (n : Bool) (lower : ℕ) → So (is_zero lower || n) → low n lower ≤ 0
zero_low true lower h = omega arith
zero_low false zero h = omega arith
zero_low false (suc k) h = absurd (false≢true h)

-- ---- lists

-- a list whose front falls into two
pub append_cut : {A : Type 0} (m u v z : List A) → m ≡ u ++ v → m ++ z ≡ u ++ (v ++ z)
append_cut m u v z e = ap (λ x. x ++ z) e ∙ append_assoc u v z

-- a list and the next element
pub take_through : {A : Type 0} (u : List A) (a : A) (v : List A) → take (suc (length u)) (u ++ (a ∷ v)) ≡ u ++ (a ∷ [])
take_through [] a v = refl
take_through {A} (b ∷ u) a v = ap {B = List A} (λ x. b ∷ x) (take_through u a v)

module _ {A : Type 0} where
  -- the last element, or d of an empty list
  abbrev pub last_or : A → List A → A
  last_or d [] = d
  last_or d (a ∷ x) = last_or a x

  -- the last of two lists, one after the other
  pub last_append : (d : A) (x y : List A) → last_or d (x ++ y) ≡ last_or (last_or d x) y
  last_append d [] y = refl
  last_append d (a ∷ x) y = last_append a x y

  -- equal lists have the same last element
  pub last_same : (u v : List A) (a b : A) → u ++ (a ∷ []) ≡ v ++ (b ∷ []) → a ≡ b
  last_same u v a b p = sym (last_append a u (a ∷ [])) ∙ ap (last_or a) p ∙ last_append a v (b ∷ [])

-- ---- sets of lists

-- the union of two sets holds what one of them holds
pub or_iff : {A : Type 0} {P Q : List A → Type 0} {w : List A} → Or P Q w ↔ (P w ⊎ Q w)
or_iff {P = P} {Q = Q} {w = w} = (either, ⊎_elim left right)
  where
    either : Or P Q w → P w ⊎ Q w
    either (left p) = inl p
    either (right q) = inr q

module _ {A : Type 0} where
  -- a list that is one of the first set and one of the second
  pub cat_at : {P Q : List A → Type 0} {x : List A} (u v : List A) → P u → Q v → x ≡ u ++ v → Cat P Q x
  cat_at {P} {Q} u v a b e = subst (Cat P Q) (sym e) (cat u v a b)

  -- what lengthens the second list lengthens the whole
  pub cat_append : {P Q R : List A → Type 0} (u z : List A) → Cat P Q u → ((v : List A) → Q v → R (v ++ z)) → Cat P R (u ++ z)
  cat_append u z (cat x y p q) f = rw (append_assoc x y z) (cat x (y ++ z) p (f y q))

  -- what goes before the first list goes before the whole
  pub append_cat : {P Q R : List A → Type 0} (u z : List A) → Cat P Q z → ((v : List A) → P v → R (u ++ v)) → Cat R Q (u ++ z)
  append_cat u z (cat x y p q) f = rw (← (append_assoc u x y)) (cat (u ++ x) y (f x p) q)

  -- lists of a power, then lists of another power of the same set
  pub power_append : {P : List A → Type 0} (j k : ℕ) (u v : List A) → Power P j u → Power P k v → Power P (j + k) (u ++ v)
  power_append {P} j k u v none q = subst (λ (n : ℕ). Power P n v) (omega arith) q
  power_append {P} j k u v (more i x y p r) q =
      let e : suc (i + k) ≡ suc i + k = omega arith in
      subst (λ (n : ℕ). Power P n (x ++ y ++ v)) e (rw (append_assoc x y v) (more (i + k) x (y ++ v) p (power_append i k y v r q)))

  -- lists of a power, then one more
  pub power_snoc : {P : List A → Type 0} (j : ℕ) (u v : List A) → Power P j u → P v → Power P (suc j) (u ++ v)
  power_snoc {P} j u v a p =
      let e : j + 1 ≡ suc j = omega arith in
      let w = power_append j 1 u (v ++ []) a (more 0 v [] p none) in
      rw (append-nil v) at (subst (λ (n : ℕ). Power P n (u ++ (v ++ []))) e w)

  -- a set with a list has every power
  pub some_power : {P : List A → Type 0} (x : List A) → P x → (n : ℕ) → (w : List A) × Power P n w
  some_power x p zero = ([], none)
  some_power x p (suc n) = let t = some_power x p n in (x ++ t.0, more n x t.0 p t.1)

-- ---- equality and order as tests

-- a test that does not pass is false, and one that passes is true
pub test_false : (b : Bool) → ¬ T b → b ≡ false
test_false true h = absurd (h tt)
test_false false h = refl

pub test_true : (b : Bool) → T b → b ≡ true
test_true true h = refl
test_true false h = absurd h

-- a number equals itself
pub eqb_same : (n : ℕ) → eqb n n ≡ true
eqb_same n = test_true (eqb n n) (eqb_refl n)

-- and not a larger one
pub eqb_less : (m n : ℕ) → m < n → eqb m n ≡ false
eqb_less m n h = test_false (eqb m n) (λ t. let e = eqb→eq m n t in omega arith)

pub eqb_more : (m n : ℕ) → n < m → eqb m n ≡ false
eqb_more m n h = test_false (eqb m n) (λ t. let e = eqb→eq m n t in omega arith)

-- a number is none of those below m, or none of those from m on
pub none_below_or_none_from : (n m : ℕ) → ((k : ℕ) → k < m → eqb k n ≡ false) ⊎ ((k : ℕ) → m ≤ k → eqb k n ≡ false)
none_below_or_none_from n m = decide (dec_lt n m)
  where
    decide : Dec (n < m) → ((k : ℕ) → k < m → eqb k n ≡ false) ⊎ ((k : ℕ) → m ≤ k → eqb k n ≡ false)
    decide (yes h) = inr (λ k g. eqb_more k n (omega arith))
    decide (no h) = inl (λ k g. eqb_less k n (omega arith))

-- a number equals another, or the test says that it does not
pub same_or_other : (m n : ℕ) → (m ≡ n) ⊎ (eqb m n ≡ false)
same_or_other m n = tested (eqb m n) (eqb→eq m n)
  where
    tested : (b : Bool) → (T b → m ≡ n) → (m ≡ n) ⊎ (b ≡ false)
    tested true h = inl (h tt)
    tested false h = inr refl

-- the test of equality passes exactly if the numbers are equal
pub so_eqb : (m n : ℕ) → So (eqb m n) ↔ (m ≡ n)
so_eqb m n = (λ h. eqb→eq m n (subst T (sym h) tt), λ h. subst (λ (k : ℕ). So (eqb m k)) h (eqb_same m))

-- the test of order passes exactly if the order holds, and fails exactly if it is the other way
pub so_leb : (m n : ℕ) → So (leb m n) ↔ (m ≤ n)
so_leb m n = (λ h. leb→le m n (subst T (sym h) tt), λ h. test_true (leb m n) (le→leb m n h))

pub not_leb : (m n : ℕ) → (leb m n ≡ false) ↔ (n < m)
not_leb m n = (
  λ h. nleb→lt m n (subst (λ b. T (not b)) (sym h) tt),
  λ h. test_false (leb m n) (λ t. let e = leb→le m n t in omega arith),
)

-- ---- equal lists

-- equal lists whose fronts are as long fall into equal fronts and equal rests
pub append_split : {A : Type 0} (u v x y : List A) → length u ≡ length v → u ++ x ≡ v ++ y → (u ≡ v) × (x ≡ y)
append_split [] [] x y l h = (refl, h)
append_split [] (b ∷ v) x y l h = absurd (omega arith)
append_split (a ∷ u) [] x y l h = absurd (omega arith)
append_split (a ∷ u) (b ∷ v) x y l h =
    let t = append_split u v x y (omega arith) (tail-eq_of_cons-eq h) in
    let f = head-eq_of_cons-eq h in
    let g = t.0 in
    (λ i. f i ∷ g i, t.1)

-- equal lists have equal fronts before the last element, and the same last element
pub last_split : {A : Type 0} (u v : List A) (a b : A) → u ++ (a ∷ []) ≡ v ++ (b ∷ []) → (u ≡ v) × (a ≡ b)
last_split u v a b h =
    let z = last_same u v a b h in (append_cancel_right u v (a ∷ []) (h ∙ ap (λ x. v ++ (x ∷ [])) (sym z)), z)

-- lists as long after lists as long
pub length_both : {A : Type 0} (u v x y : List A) → length u ≡ length v → length x ≡ length y → length (u ++ x) ≡ length (v ++ y)
length_both u v x y h k =
    let a = length-append u x in
    let b = length-append v y in
    omega arith
