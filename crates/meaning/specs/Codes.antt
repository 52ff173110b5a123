-- Codes, and a set of codes as a number.
use Rattle.std.specs.Prelude.{◌≡◌, ◌↔◌, ℕ, ◌+◌, ◌*◌, ◌/◌, ◌%◌, ◌^◌, ◌<◌}

-- the largest code that an event may have
abbrev pub most_code : ℕ
most_code = 127

-- the code is in the set: its bit is 1
unfoldable pub Has : ℕ → ℕ → Type 0
Has set c = set / 2 ^ c % 2 ≡ 1

-- the set that two words of 64 bits hold: codes 0 to 63 in the low word, and the others, less 64, in the high word
unfoldable pub in_words : ℕ → ℕ → ℕ
in_words low high = high * 2 ^ 64 + low

-- the two words hold the set of the codes that have P
pub record SetInWords (P : ℕ → Type 0) (low high : ℕ) : Type 0 where
  pub low_word : low < 2 ^ 64
  pub high_word : high < 2 ^ 64
  pub codes : (c : ℕ) → Has (in_words low high) c ↔ P c
