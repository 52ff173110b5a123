-- Numbers as bytes, little-endian.
use Rattle.std.specs.Prelude.{List, [], ◌∷◌, ℕ, ◌+◌, ◌*◌, ◌/◌, ◌%◌, get_or}

-- the byte at i, and 0 past the end
abbrev pub byte_at : List ℕ → ℕ → ℕ
byte_at f i = get_or f i 0

-- the number in the two bytes from i on
abbrev pub two_at : List ℕ → ℕ → ℕ
two_at f i = byte_at f i + 256 * byte_at f (i + 1)

-- the number in the four bytes from i on
abbrev pub four_at : List ℕ → ℕ → ℕ
four_at f i = two_at f i + 65536 * two_at f (i + 2)

-- the numbers, each in two bytes
abbrev pub in_twos : List ℕ → List ℕ
in_twos [] = []
in_twos (n ∷ ns) = n % 256 ∷ n / 256 % 256 ∷ in_twos ns
