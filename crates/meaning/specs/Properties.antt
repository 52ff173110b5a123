-- Numbers that have a property: the lowest of them, and how many there are.
use Rattle.std.specs.Prelude.{ℕ, zero, suc, ◌≤◌}

-- n is the lowest number that has P
pub record Least (P : ℕ → Type 0) (n : ℕ) : Type 0 where
  pub holds : P n
  pub lowest : (m : ℕ) → P m → n ≤ m

-- of the numbers below k, n have P
pub data CountBelow (P : ℕ → Type 0) : ℕ → ℕ → Type 0 where
  none_below : CountBelow P zero zero
  one_more : (k n : ℕ) → P k → CountBelow P k n → CountBelow P (suc k) (suc n)
  no_more : (k n : ℕ) → ¬ P k → CountBelow P k n → CountBelow P (suc k) n
