-- The digit c of a number, s / 2 ^ c % 2: past a number's length, and how two numbers are equal by their digits. What the laws of
-- membership rest on. Assumes nothing.
use mathlib.Core.Path.{◌≡◌, sym, ap, ◌∙◌}
use Prim.Native.Nat.{ℕ, zero, suc, ◌/◌, ◌%◌, ◌^◌, ◌<◌}
use native.Mathlib.Nat.{div-eq_of_lt, div-one, pow-suc}
use native.Mathlib.Numerals.{one-add}
use native.Mathlib.Omega.{arith}
use lib.Pow.{shr-shr}

-- digit c + 1 of a number is digit c of its half
pub digit_up : (s c : ℕ) → s / 2 ^ suc c ≡ s / 2 / 2 ^ c
digit_up s c = ap (λ (k : ℕ). s / 2 ^ k) (sym (one-add c)) ∙ sym (shr-shr s 1 c)

pub digit_lowest : (s : ℕ) → s / 2 ^ 0 ≡ s
digit_lowest s = div-one s

-- past a number's length every digit is 0
pub digit_past : (s c : ℕ) → s < 2 ^ c → s / 2 ^ c % 2 ≡ 0
digit_past s c h = ap (λ (n : ℕ). n % 2) (div-eq_of_lt h)

-- numbers of k digits that agree in each are equal
pub same_digits : (k a b : ℕ) → a < 2 ^ k → b < 2 ^ k → ((c : ℕ) → a / 2 ^ c % 2 ≡ b / 2 ^ c % 2) → a ≡ b
same_digits zero a b ha hb h = omega arith
same_digits (suc k) a b ha hb h =
    let low : a % 2 ≡ b % 2 = ap (λ (n : ℕ). n % 2) (sym (digit_lowest a)) ∙ h 0 ∙ ap (λ (n : ℕ). n % 2) (digit_lowest b) in
    let high : a / 2 ≡ b / 2 =
    same_digits k (a / 2) (b / 2) (half a ha) (half b hb)
    (λ c. ap (λ (n : ℕ). n % 2) (sym (digit_up a c)) ∙ h (suc c) ∙ ap (λ (n : ℕ). n % 2) (digit_up b c)) in
    omega arith
  where
    half : (n : ℕ) → n < 2 ^ suc k → n / 2 < 2 ^ k
    half n l = omega (arith, pow-suc 2 k)
