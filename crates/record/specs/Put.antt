-- Items put into a space. A model of our code, and no promise.
use Rattle.std.specs.Prelude.{cond, List, [], ◌∷◌, ℕ, ◌+◌, ◌*◌, ltb, length}
use Rattle.numbers.specs.Put.{put_two}

-- the space after an item's number is put at a place; where its two bytes do not fit, nothing is put
unfoldable pub put_at : List ℕ → ℕ → ℕ → List ℕ
put_at space at n = cond (ltb (2 * at + 1) (length space)) (put_two space (2 * at) n) space

-- and after numbers are put one after the other from a place on
abbrev pub puts : List ℕ → ℕ → List ℕ → List ℕ
puts space at [] = space
puts space at (n ∷ w) = puts (put_at space at n) (at + 1) w
