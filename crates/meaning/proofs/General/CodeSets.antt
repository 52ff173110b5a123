-- Membership in a set of codes is decided, a set of two words has the codes of its words, and sets with the same codes are equal.
-- Assumes nothing.
use mathlib.Core.Logic.Iff
use mathlib.Core.Logic.{◌↔◌, ◌⊎◌, inl, inr}
use mathlib.Core.Path.{◌≡◌, sym, ap, subst, ◌∙◌}
use Prim.Native.Nat.{ℕ, ◌+◌, ◌-◌, ◌/◌, ◌%◌, ◌^◌, ◌≤◌, ◌<◌}
use native.Mathlib.Decide.{ℕ_discrete, dec_lt}
use native.Mathlib.Nat.{lt_of_lt_of_le, zero-div}
use native.Mathlib.Omega.{arith}
use lib.Arith.{digits_lt}
use lib.Pow.{field, high, low, mod-mod-pow, pow-add, pow_mono, pow_pos, shr-shr}
use Rattle.meaning.specs.Codes.{Has, SetInWords, in_words}
use Rattle.meaning.proofs.General.Digits.{digit_past, same_digits}

-- a code is in a set or it is not
pub has_or_not : (s c : ℕ) → Has s c ⊎ ¬ Has s c
unfolding Has
has_or_not s c = elim (ℕ_discrete (s / 2 ^ c % 2) 1) [ yes h ↦ inl h | no h ↦ inr h ]

pub nothing_has : (c : ℕ) → ¬ Has 0 c
unfolding Has
nothing_has c h = omega (arith, zero-div (2 ^ c))

-- what is in a set of k bits is below k
pub has_below : (k s c : ℕ) → s < 2 ^ k → Has s c → c < k
unfolding Has
has_below k s c w h = below (dec_lt c k)
  where
    below : Dec (c < k) → c < k
    below (yes l) = l
    below (no l) = absurd (omega (arith, digit_past s c (lt_of_lt_of_le w (pow_mono (omega arith)))))

-- two sets of k bits with the same codes are equal
pub same_codes : (k a b : ℕ) → a < 2 ^ k → b < 2 ^ k → ((c : ℕ) → c < k → Has a c ↔ Has b c) → a ≡ b
unfolding Has
same_codes k a b ha hb h = same_digits k a b ha hb (λ c. same c (dec_lt c k))
  where
    told : (c : ℕ) → c < k → Has a c ⊎ ¬ Has a c → a / 2 ^ c % 2 ≡ b / 2 ^ c % 2
    told c l (inl p) = let q = (h c l).0 p in omega arith
    told c l (inr n) = let m : b / 2 ^ c % 2 ≡ 1 → ⊥ = λ q. n ((h c l).1 q) in omega arith

    past : (n c : ℕ) → n < 2 ^ k → ¬ (c < k) → n / 2 ^ c % 2 ≡ 0
    past n c w l = digit_past n c (lt_of_lt_of_le w (pow_mono (omega arith)))

    same : (c : ℕ) → Dec (c < k) → a / 2 ^ c % 2 ≡ b / 2 ^ c % 2
    same c (yes l) = told c l (has_or_not a c)
    same c (no l) = past a c ha l ∙ sym (past b c hb l)

-- ---- two words

-- a digit below the word's length is the digit of the number's rest
digit_of_rest : (n c d : ℕ) → n / 2 ^ c % 2 ≡ n % 2 ^ (d + 1 + c) / 2 ^ c % 2
digit_of_rest n c d =
    sym (mod-mod-pow (n / 2 ^ c) d 1) ∙ sym (ap (λ (m : ℕ). m % 2) (field n (d + 1) c))

module _ (w x : ℕ) (small : w < 2 ^ 64) where
  -- the codes below 64 are those of the low word
  pub low_has : (c : ℕ) → c < 64 → Has (in_words w x) c ↔ Has w c
  unfolding Has in_words
  low_has c l =
      let whole : 63 - c + 1 + c ≡ 64 = omega arith in
      let same : in_words w x / 2 ^ c % 2 ≡ w / 2 ^ c % 2 =
      digit_of_rest (in_words w x) c (63 - c)
      ∙ ap (λ (k : ℕ). in_words w x % 2 ^ k / 2 ^ c % 2) whole
      ∙ ap (λ (m : ℕ). m / 2 ^ c % 2) (low x 64 small) in
      (λ h. sym same ∙ h, λ h. same ∙ h)

  -- and the others those of the high word
  pub high_has : (c : ℕ) → Has (in_words w x) (64 + c) ↔ Has x c
  unfolding Has in_words
  high_has c =
      let same : in_words w x / 2 ^ (64 + c) % 2 ≡ x / 2 ^ c % 2 =
      ap (λ (m : ℕ). m % 2) (sym (shr-shr (in_words w x) 64 c)) ∙ ap (λ (m : ℕ). m / 2 ^ c % 2) (high x 64 small) in
      (λ h. sym same ∙ h, λ h. same ∙ h)

-- a set of two words is below 2 ^ 128, so its codes are below 128
pub words_below : (w x : ℕ) → w < 2 ^ 64 → x < 2 ^ 64 → in_words w x < 2 ^ 128
unfolding in_words
words_below w x hw hx = subst (λ (n : ℕ). in_words w x < n) (sym (pow-add 2 64 64)) (digits_lt hx hw)

pub code_in_words : (w x c : ℕ) → w < 2 ^ 64 → x < 2 ^ 64 → Has (in_words w x) c → c < 128
code_in_words w x c hw hx h = has_below 128 (in_words w x) c (words_below w x hw hx) h

-- so sets of two words with the same codes have the same words
pub same_words : (w x v y : ℕ) → w < 2 ^ 64 → x < 2 ^ 64 → v < 2 ^ 64 → y < 2 ^ 64
    → ((c : ℕ) → Has (in_words w x) c ↔ Has (in_words v y) c) → (w ≡ v) × (x ≡ y)
same_words w x v y hw hx hv hy h = (
  same_codes 64 w v hw hv (λ c l. Iff.trans (Iff.symm (low_has w x hw c l)) (Iff.trans (h c) (low_has v y hv c l))),
  same_codes 64 x y hx hy (λ c l. Iff.trans (Iff.symm (high_has w x hw c)) (Iff.trans (h (64 + c)) (high_has v y hv c))),
)

-- so the words of a set are one pair
pub set_unique : {P : ℕ → Type 0} {low high low' high' : ℕ} → SetInWords P low high → SetInWords P low' high' → (low ≡ low') × (high ≡ high')
set_unique x y =
    same_words _ _ _ _ x.low_word x.high_word y.low_word y.high_word (λ c. Iff.trans (x.codes c) (Iff.symm (y.codes c)))

-- where no code above 63 has the property, the high word is 0
pub high_word_zero : {P : ℕ → Type 0} {low high : ℕ} → SetInWords P low high → ((c : ℕ) → P c → c ≤ 63) → high ≡ 0
high_word_zero {low = low} {high} x few = same_codes 64 high 0 x.high_word (pow_pos 64) (λ c l. (λ h. absurd (none c h), λ h. absurd (nothing_has c h)))
  where
    none : (c : ℕ) → ¬ Has high c
    none c h = omega (arith, few (64 + c) ((x.codes (64 + c)).0 ((high_has low high x.low_word c).1 h)))
