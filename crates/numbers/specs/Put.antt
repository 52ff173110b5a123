-- Numbers put into bytes, little-endian. A model of our code, and no promise.
use Rattle.std.specs.Prelude.{List, ℕ, ◌+◌, ◌/◌, ◌%◌, set}

-- the bytes with the lowest two of the number from `at` on
abbrev pub put_two : List ℕ → ℕ → ℕ → List ℕ
put_two bytes at x = set (set bytes at (x % 256)) (at + 1) (x / 256 % 256)

-- the bytes with the lowest four of the number from `at` on
abbrev pub put_four : List ℕ → ℕ → ℕ → List ℕ
put_four bytes at x = put_two (put_two bytes at x) (at + 2) (x / 65536)
