-- Numbers that have a property: at most one is the lowest, and they are counted in one way. Assumes nothing.
use mathlib.Core.Logic.{◌↔◌}
use mathlib.Core.Path.{◌≡◌, refl, ap, subst}
use Prim.Native.Nat.{ℕ, zero, suc, ◌+◌, ◌≤◌, ◌<◌}
use native.Mathlib.Decide.{dec_lt}
use native.Mathlib.Nat.{le_antisymm}
use native.Mathlib.Numerals.{unary_clauses}
use native.Mathlib.Omega.{arith}
use Rattle.meaning.specs.Properties.{Least, CountBelow, none_below, one_more, no_more}

pub least_unique : {P : ℕ → Type 0} {m n : ℕ} → Least P m → Least P n → m ≡ n
least_unique {m = m} {n = n} a b = le_antisymm (a.lowest n b.holds) (b.lowest m a.holds)

-- a property that holds of the same numbers has the same lowest
pub least_same : {P Q : ℕ → Type 0} {n : ℕ} → ((c : ℕ) → P c ↔ Q c) → Least P n → Least Q n
least_same {n = n} e a = record { holds = (e n).0 a.holds; lowest = λ m q. a.lowest m ((e m).1 q) }

-- ---- how many

-- no more of the numbers below k have it than there are
pub count_most : {P : ℕ → Type 0} {k n : ℕ} → CountBelow P k n → n ≤ k
count_most none_below = omega arith
count_most (one_more k n p a) = omega (arith, count_most a)
count_most (no_more k n p a) = omega (arith, count_most a)

-- and where one of them has it, there is one
pub count_some : {P : ℕ → Type 0} (c : ℕ) {k n : ℕ} → c < k → P c → CountBelow P k n → 1 ≤ n
count_some c l p none_below = absurd (omega arith)
count_some c l p (one_more k n q a) = omega arith
count_some {P} c l p (no_more k n q a) = side (λ h. count_some c h p a) (dec_lt c k)
  where
    side : (c < k → 1 ≤ n) → Dec (c < k) → 1 ≤ n
    side on (yes h) = on h
    side on (no h) = absurd (q (subst P (omega arith) p))

count_one : {P : ℕ → Type 0} {k l m n : ℕ} → k ≡ l → CountBelow P k m → CountBelow P l n → m ≡ n
count_one e none_below none_below = refl
count_one e none_below (one_more l n q b) = absurd (omega arith)
count_one e none_below (no_more l n q b) = absurd (omega arith)
count_one e (one_more k m p a) none_below = absurd (omega arith)
count_one e (one_more k m p a) (one_more l n q b) = ap suc (count_one (omega arith) a b)
count_one {P} e (one_more k m p a) (no_more l n q b) = absurd (q (subst P (omega arith) p))
count_one e (no_more k m p a) none_below = absurd (omega arith)
count_one {P} e (no_more k m p a) (one_more l n q b) = absurd (p (subst P (omega arith) q))
count_one e (no_more k m p a) (no_more l n q b) = count_one (omega arith) a b

pub count_unique : {P : ℕ → Type 0} {k m n : ℕ} → CountBelow P k m → CountBelow P k n → m ≡ n
count_unique a b = count_one refl a b

pub count_same : {P Q : ℕ → Type 0} {k n : ℕ} → ((c : ℕ) → c < k → P c ↔ Q c) → CountBelow P k n → CountBelow Q k n
count_same e none_below = none_below
count_same e (one_more k n p a) = one_more k n ((e k (omega arith)).0 p) (count_same (λ c l. e c (omega arith)) a)
count_same e (no_more k n p a) = no_more k n (λ q. p ((e k (omega arith)).1 q)) (count_same (λ c l. e c (omega arith)) a)

-- the numbers below j, and k numbers from there on
pub count_joined : {P : ℕ → Type 0} (j : ℕ) {m k n : ℕ} → CountBelow P j m → CountBelow (λ c. P (j + c)) k n → CountBelow P (j + k) (m + n)
count_joined j a none_below = simp unary_clauses a
count_joined j {m = m} a (one_more k n p b) = simp unary_clauses (one_more (j + k) (m + n) p (count_joined j a b))
count_joined j {m = m} a (no_more k n p b) = simp unary_clauses (no_more (j + k) (m + n) p (count_joined j a b))

-- where the property is decided, they can be counted
unfoldable pub counted : {P : ℕ → Type 0} → ((c : ℕ) → Dec (P c)) → (k : ℕ) → (n : ℕ) × CountBelow P k n
counted d zero = (0, none_below)
counted {P} d (suc k) = one (d k) (counted d k)
  where
    one : Dec (P k) → (n : ℕ) × CountBelow P k n → (n : ℕ) × CountBelow P (suc k) n
    one (yes p) c = (suc c.0, one_more k c.0 p c.1)
    one (no p) c = (c.0, no_more k c.0 p c.1)
