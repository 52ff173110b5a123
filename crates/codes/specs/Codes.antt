-- Sets of codes: what it is to be in one. A caller goes by the laws of membership and opens nothing here, so that how a set is held, as
-- the bits of two words, is known to this crate and to those that hand the words out. A model of our code, and no promise.
use Rattle.std.specs.Prelude.{Option, Some, None, ℕ, ◌+◌, ◌<◌}
use Rattle.meaning.specs.Codes.{Has, in_words, most_code}
use Rattle.meaning.specs.Properties.{Least}
use Rattle.codes.specs.declared.Codes as code

-- A set of codes as the code holds it.
abbrev pub Codes : Type 0
Codes = code.Codes

-- Every code is below this.
abbrev pub limit : ℕ
limit = most_code + 1

-- The set with no code.
abbrev pub no_codes : Codes
no_codes = record { low = 0; high = 0 }

-- Code c is in the set.
unfoldable pub Contains : Codes → ℕ → Type 0
Contains s c = Has (in_words s.low s.high) c

-- Code c is in both sets.
abbrev pub Shared : Codes → Codes → ℕ → Type 0
Shared a b c = Contains a c × Contains b c

-- This is the lowest code of the set s, or none where the set has no code.
abbrev pub LowestIn : Codes → Option ℕ → Type 0
LowestIn s (Some c) = Least (Contains s) c × (c < limit)
LowestIn s None = (c : ℕ) → ¬ Contains s c
