-- From words to sets: which codes a set has by the digits of its words, so what is made of the words of sets is made of the sets.
-- Assumes nothing.
use mathlib.Core.Logic.{◌↔◌, ◌≢◌, ◌⊎◌, inl, inr, ⊎_elim}
use mathlib.Core.Path.{◌≡◌, refl, sym, ap, subst, ◌∙◌}
use Prim.Native.Nat.{ℕ, ◌+◌, ◌-◌, ◌*◌, ◌%◌, ◌^◌, ◌≤◌, ◌<◌}
use native.Mathlib.Decide.{ℕ_discrete}
use native.Mathlib.Omega.{arith}
use lib.Bits.{and_block, bit_and, bit_or, or_block}
use lib.Count.{ones, ones_cat}
use lib.Pow.{pow-add, pow_pos}
use Rattle.std.specs.Int.{trailing_zeros, w64}
use Rattle.std.proofs.lemmas.Bool.{cases_lt}
use Rattle.std.proofs.lemmas.Nat.{one_shl}
use Rattle.std.proofs.lemmas.Nat.Bits.{bit_at_cat_high, bit_at_cat_low}
use Rattle.meaning.specs.Codes.{Has, SetInWords, in_words}
use Rattle.meaning.specs.Properties.{CountBelow, Least}
use Rattle.meaning.proofs.General.CodeSets.{code_in_words, nothing_has, same_words, words_below}
use Rattle.codes.specs.Codes.{Codes, Contains, Shared, limit, no_codes}
use Rattle.codes.proofs.Digits.{both_has, ones_count, either_has, only_has, trailing_lowest}

module _ (s : Codes) (low : s.low < 2 ^ 64) (high : s.high < 2 ^ 64) where
  -- the words of a set hold the set of what it has
  pub words_set : {P : ℕ → Type 0} → ((c : ℕ) → Contains s c ↔ P c) → SetInWords P s.low s.high
  unfolding Contains
  words_set told = record { low_word = low; high_word = high; codes = told }

-- ---- a code of one set

module _ (s : Codes) (c : ℕ) where
  -- the codes below 64 are those of its low word
  pub low_contains : c < 64 → Has s.low c ↔ Contains s c
  unfolding Contains Has in_words
  low_contains l = let e = bit_at_cat_low s.high 64 s.low c l in (λ h. e ∙ h, λ h. sym e ∙ h)

  -- and the others those of the high word
  pub high_contains : s.low < 2 ^ 64 → 64 ≤ c → Has s.high (c - 64) ↔ Contains s c
  unfolding Contains Has in_words
  high_contains w l = let e = bit_at_cat_high s.high 64 s.low c w l in (λ h. e ∙ h, λ h. sym e ∙ h)

  -- and each code of the set is in the one or in the other
  split_words : s.low < 2 ^ 64 → Contains s c → ((c < 64) × Has s.low c) ⊎ ((k : ℕ) × (c ≡ 64 + k) × Has s.high k)
  split_words w h = ⊎_elim (λ l. inl (l, (low_contains l).1 h)) (λ l. inr (c - 64, omega arith, (high_contains w l).1 h)) (cases_lt c 64)

  -- no code is in two words that are 0, and none from 128 on in any
  pub none_contains : s.low ≡ 0 → s.high ≡ 0 → ¬ Contains s c
  unfolding Contains in_words
  none_contains e f h = nothing_has c (subst (λ (n : ℕ). Has n c) (omega arith) h)

  pub past_words : s.low < 2 ^ 64 → s.high < 2 ^ 64 → 64 ≤ c - 64 → ¬ Contains s c
  unfolding Contains
  past_words v w l h = omega (arith, code_in_words s.low s.high c v w h)

-- a set without codes has no word but 0
pub empty_words : (s : Codes) → s.low < 2 ^ 64 → s.high < 2 ^ 64 → ((c : ℕ) → ¬ Contains s c) → (s.low ≡ 0) × (s.high ≡ 0)
unfolding Contains
empty_words s v w none =
    same_words s.low s.high 0 0 v w (pow_pos 64) (pow_pos 64) (λ c. (λ h. absurd (none c h), λ h. absurd (none_contains no_codes c refl refl h)))

-- ---- a code alone

pub low_only : (c : ℕ) → c < 64 → (d : ℕ) → Contains (record { low = 1 * 2 ^ c % 2 ^ 64; high = 0 }) d ↔ (d ≡ c)
unfolding Contains in_words
low_only c l d = subst (λ (n : ℕ). Has n d ↔ (d ≡ c)) (omega (arith, one_shl c 64 l)) (only_has c d)

pub high_only : (c : ℕ) → 64 ≤ c → c < limit → (d : ℕ) → Contains (record { low = 0; high = 1 * 2 ^ (c - 64) % 2 ^ 64 }) d ↔ (d ≡ c)
unfolding Contains in_words
high_only c l k d =
    let k : c - 64 < 64 = omega arith in
    let e : c - 64 + 64 ≡ c = omega arith in
    subst (λ (n : ℕ). Has n d ↔ (d ≡ c)) (omega (arith, one_shl (c - 64) 64 k, pow-add 2 (c - 64) 64, ap (λ n. 2 ^ n) e)) (only_has c d)

-- ---- two sets

-- what is made of two words is made of the numbers of two sets, word by word
abbrev ByWords : (ℕ → ℕ → ℕ) → Type 0
ByWords op = (w x v y : ℕ) → w < 2 ^ 64 → v < 2 ^ 64 → in_words (op w v) (op x y) ≡ op (in_words w x) (in_words v y)

either_by_words : ByWords bit_or
unfolding in_words
either_by_words = λ w x v y hw hv. sym (or_block 64 x y w v hw hv)

both_by_words : ByWords bit_and
unfolding in_words
both_by_words = λ w x v y hw hv. sym (and_block 64 x y w v hw hv)

-- so what is in it, as R says of the two numbers, R says of the two sets
pub lifted : (op : ℕ → ℕ → ℕ) (R : Type 0 → Type 0 → Type 0) → ByWords op → ((m n c : ℕ) → Has (op m n) c ↔ R (Has m c) (Has n c))
    → (a b : Codes) → a.low < 2 ^ 64 → b.low < 2 ^ 64 → (c : ℕ)
    → Contains (record { low = op a.low b.low; high = op a.high b.high }) c ↔ R (Contains a c) (Contains b c)
unfolding Contains
lifted op R by-words told a b v w c =
    subst (λ (n : ℕ). Has n c ↔ R (Contains a c) (Contains b c)) (sym (by-words a.low a.high b.low b.high v w)) (told _ _ c)

module _ (a b : Codes) (v : a.low < 2 ^ 64) (w : b.low < 2 ^ 64) (c : ℕ) where
  pub union_contains : Contains (record { low = bit_or a.low b.low; high = bit_or a.high b.high }) c ↔ (Contains a c ⊎ Contains b c)
  union_contains = lifted bit_or ◌⊎◌ either_by_words either_has a b v w c

  pub shared_contains : Contains (record { low = bit_and a.low b.low; high = bit_and a.high b.high }) c ↔ Shared a b c
  shared_contains = lifted bit_and (λ A B. A × B) both_by_words both_has a b v w c

-- ---- the lowest code, and how many

module _ (s : Codes) where
  -- the lowest of the low word, where that has one
  pub lowest_in_low : s.low < 2 ^ 64 → s.low ≢ 0 → Least (Contains s) (trailing_zeros w64 s.low) × (trailing_zeros w64 s.low < limit)
  lowest_in_low w n =
      let t = trailing_lowest s.low w n in
      let least : (d : ℕ) → Contains s d → trailing_zeros w64 s.low ≤ d =
      λ d h. ⊎_elim (λ p. t.1.lowest d p.1) (λ p. omega (arith, p.1)) (split_words s d w h) in
      (record { holds = (low_contains s _ t.0).0 t.1.holds; lowest = least }, omega arith)

  -- or else that of the high word, which is 64 higher
  pub lowest_in_high : s.low ≡ 0 → s.high < 2 ^ 64 → s.high ≢ 0
      → Least (Contains s) (64 + trailing_zeros w64 s.high) × (64 + trailing_zeros w64 s.high < limit)
  lowest_in_high e w n =
      let t = trailing_lowest s.high w n in
      let v : s.low < 2 ^ 64 = omega arith in
      let k : 64 + trailing_zeros w64 s.high - 64 ≡ trailing_zeros w64 s.high = omega arith in (
        record {
          holds = (high_contains s _ v (omega arith)).0 (subst (Has s.high) (sym k) t.1.holds);
          lowest = λ d h. ⊎_elim (λ p. absurd (nothing_has d (subst (λ (n : ℕ). Has n d) e p.1)))
              (λ p. omega (arith, p.1, t.1.lowest p.0 p.2)) (split_words s d v h);
        },
        omega arith,
      )

  -- a code is in the set exactly if something is in either word
  pub any_told : s.low < 2 ^ 64 → s.high < 2 ^ 64 → ((s.low ≢ 0) ⊎ (s.high ≢ 0)) ↔ ((c : ℕ) × Contains s c)
  any_told v w = (
    ⊎_elim in_low (λ n. in_high n (ℕ_discrete s.low 0)),
    λ some. ⊎_elim (λ p. inl (filled some.0 p.1)) (λ p. inr (filled p.0 p.2)) (split_words s some.0 v some.1),
  )
    where
      in_low : s.low ≢ 0 → (c : ℕ) × Contains s c
      in_low n = (_, (lowest_in_low v n).0.holds)

      in_high : s.high ≢ 0 → Dec (s.low ≡ 0) → (c : ℕ) × Contains s c
      in_high n (yes e) = (_, (lowest_in_high e w n).0.holds)
      in_high n (no m) = in_low m

      filled : {x : ℕ} (c : ℕ) → Has x c → x ≢ 0
      filled c h e = nothing_has c (subst (λ (n : ℕ). Has n c) e h)

  pub count_in_words : s.low < 2 ^ 64 → s.high < 2 ^ 64 → CountBelow (Contains s) limit (ones s.low + ones s.high)
  unfolding Contains in_words
  count_in_words v w = subst (CountBelow (Contains s) limit) (omega (arith, ones_cat 64 s.high s.low v)) (ones_count 128 (in_words s.low s.high) (words_below s.low s.high v w))
