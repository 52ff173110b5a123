-- Where a run stands, and the bytes that hold it. A model of our code, and no promise.
use Rattle.std.specs.Prelude.{◌≡◌, List, ◌∷◌, ℕ, ◌+◌, length, Option, Some, None}
use Rattle.meaning.specs.Bytes.{in_twos}
use Rattle.meaning.specs.Theory.Counts.{Narrow}

-- the place of a state: 0 at the start, or else 1 + the event node reached
abbrev pub place_of : Option ℕ → ℕ
place_of None = 0
place_of (Some p) = p + 1

-- the bytes hold the node and the 32 counters, each in two bytes
pub record Decoded (bytes : List ℕ) (node : ℕ) (counts : List ℕ) : Type 0 where
  pub written : bytes ≡ in_twos (node ∷ counts)
  pub narrow : Narrow (node ∷ counts)
  pub long : length counts ≡ 32
