-- A number by its binary digits, which are the codes that it has. Assumes nothing.
use mathlib.Core.Logic.{◌↔◌, ◌≢◌, ◌⊎◌, inl, inr, ⊎_elim}
use mathlib.Core.Path.{◌≡◌, refl, sym, ap, subst, ◌∙◌}
use Prim.Native.Nat.{ℕ, zero, suc, ◌+◌, ◌%◌, ◌^◌, ◌<◌}
use native.Mathlib.Decide.{ℕ_discrete}
use native.Mathlib.Nat.{mod-eq_of_lt, mod-lt}
use native.Mathlib.Omega.{arith}
use lib.Bits.{bit_and, bit_or}
use lib.Count.{ones, ones_cat}
use lib.Pow.{mod-pow-add, pow_pos}
use Rattle.std.specs.Int.{bit_at, trailing_zeros, w64}
use Rattle.std.proofs.lemmas.Nat.Bits.{bit_at-lt, bit_at-pow_other, bit_at-pow_same, bit_at-trailing_zeros, bit_at_and, bit_at_or}
use Rattle.meaning.specs.Codes.{Has}
use Rattle.meaning.specs.Properties.{CountBelow, Least, none_below, no_more, one_more}

pub only_has : (c d : ℕ) → Has (2 ^ c) d ↔ (d ≡ c)
unfolding Has
only_has c d = (λ h. same h (ℕ_discrete d c), λ e. subst (λ (n : ℕ). bit_at (2 ^ c) n ≡ 1) (sym e) (bit_at-pow_same c))
  where
    same : bit_at (2 ^ c) d ≡ 1 → Dec (d ≡ c) → d ≡ c
    same h (yes e) = e
    same h (no n) = absurd (omega (arith, bit_at-pow_other c d n))

pub either_has : (a b c : ℕ) → Has (bit_or a b) c ↔ (Has a c ⊎ Has b c)
unfolding Has
either_has a b c = (λ h. which h (ℕ_discrete (bit_at a c) 1), ⊎_elim (λ p. omega (arith, bit_at_or a b c, bit_at-lt b c)) (λ q. omega (arith, bit_at_or a b c, bit_at-lt a c)))
  where
    which : bit_at (bit_or a b) c ≡ 1 → Dec (bit_at a c ≡ 1) → (bit_at a c ≡ 1) ⊎ (bit_at b c ≡ 1)
    which h (yes p) = inl p
    which h (no n) = inr (omega (arith, bit_at_or a b c, bit_at-lt a c))

pub both_has : (a b c : ℕ) → Has (bit_and a b) c ↔ (Has a c × Has b c)
unfolding Has
both_has a b c = let e = bit_at_and a b c in (λ h. (omega (arith, bit_at-lt a c), omega (arith, bit_at-lt b c)), λ p. omega arith)

-- the trailing zeros of a word that is not 0 are its lowest code
pub trailing_lowest : (s : ℕ) → s < 2 ^ 64 → s ≢ 0 → (trailing_zeros w64 s < 64) × Least (Has s) (trailing_zeros w64 s)
unfolding Has
trailing_lowest s w n =
    let t = bit_at-trailing_zeros w64 s (omega arith) w in
    (t.0, record { holds = t.1; lowest = λ d h. grind (arith, t.2 d) })

-- ---- how many

ones_none : 0 ≡ ones 0
unfolding ones
ones_none = refl

-- the digit k, and those below it
ones_above : (k s : ℕ) → ones (s % 2 ^ suc k) ≡ ones (bit_at s k) + ones (s % 2 ^ k)
ones_above k s =
    let e : 1 + k ≡ suc k = omega arith in
    ap (λ (n : ℕ). ones (s % 2 ^ n)) (sym e) ∙ ap ones (mod-pow-add s 1 k) ∙ ones_cat k (bit_at s k) (s % 2 ^ k) (mod-lt s (pow_pos k))

count_more : (k s n d : ℕ) → bit_at s k ≡ d → CountBelow (Has s) k n → CountBelow (Has s) (suc k) (ones d + n)
unfolding ones Has
count_more k s n zero e below = let z : n ≡ 0 + n = omega arith in subst (CountBelow (Has s) (suc k)) z (no_more k n (λ h. omega arith) below)
count_more k s n (suc zero) e below = let z : suc n ≡ 1 + n = omega arith in subst (CountBelow (Has s) (suc k)) z (one_more k n e below)
count_more k s n (suc (suc d)) e below = absurd (omega (arith, bit_at-lt s k))

count_digits : (k s : ℕ) → CountBelow (Has s) k (ones (s % 2 ^ k))
count_digits zero s = let e : ones 0 ≡ ones (s % 2 ^ 0) = ap ones (omega arith) in subst (CountBelow (Has s) 0) (ones_none ∙ e) none_below
count_digits (suc k) s = subst (CountBelow (Has s) (suc k)) (sym (ones_above k s)) (count_more k s _ _ refl (count_digits k s))

pub ones_count : (k s : ℕ) → s < 2 ^ k → CountBelow (Has s) k (ones s)
ones_count k s w = subst (λ (n : ℕ). CountBelow (Has s) k (ones n)) (mod-eq_of_lt w) (count_digits k s)
