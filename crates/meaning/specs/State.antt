-- The state that a run reaches.
use Rattle.std.specs.Prelude.{◌≡◌, Bool, false, cond, List, [], ◌∷◌, ◌++◌, ℕ, suc, ◌+◌, min, max, eqb, length, take, replicate}
use Rattle.meaning.specs.Expr.{Expr, empty, event, choice, sequence, repeat, size, Upper, upto, endless}
use Rattle.meaning.specs.Normal.{nullable, low}
use Rattle.meaning.specs.Reading.{Item, place, opening, closing, Reading, codes, up_to}
use Rattle.meaning.specs.Bytes.{in_twos}

-- the next item is an opening of r
abbrev pub opens_next : ℕ → List Item → Bool
opens_next r [] = false
opens_next r (place i c ∷ x) = false
opens_next r (opening q ∷ x) = eqb q r
opens_next r (closing q ∷ x) = false

-- the blocks of repeat r begun in the present stay, where k were begun before the items:
-- a closing that no opening of r follows leaves the repeat
abbrev pub begun : ℕ → List Item → ℕ → ℕ
begun r [] k = k
begun r (place i c ∷ x) k = begun r x k
begun r (opening q ∷ x) k = begun r x (cond (eqb q r) (suc k) k)
begun r (closing q ∷ x) k = begun r x (cond (eqb q r) (cond (opens_next r x) k 0) k)

-- with no upper bound a counter stops at the larger of 1 and the normal-form lower bound
abbrev pub stop : ℕ → Upper → ℕ → ℕ
stop lower (upto n) k = k
stop lower endless k = min k (max 1 lower)

-- the counters of the repeats in rising node order, from the number of blocks begun at each node
abbrev pub counters : (ℕ → ℕ) → ℕ → Expr → List ℕ
counters f s empty = []
counters f s (event c) = []
counters f s (choice l r) = counters f s l ++ counters f (s + size l) r
counters f s (sequence l r) = counters f s l ++ counters f (s + size l) r
counters f s (repeat b lower upper) = counters f s b ++ (stop (low (nullable b) lower) upper (f (s + size b)) ∷ [])

-- 1 + the node of the last event, and n where there is none
abbrev pub reached : List Item → ℕ → ℕ
reached [] n = n
reached (place i c ∷ x) n = reached x (i + 1)
reached (opening r ∷ x) n = reached x n
reached (closing r ∷ x) n = reached x n

-- 32 counters, 0 past the last repeat
abbrev pub padded : List ℕ → List ℕ
padded counts = take 32 (counts ++ replicate 32 0)

-- a state: 1 + the event node reached, or 0 at the start; and the counters of the repeats in rising node order
pub record State : Type 0 where
  pub node : ℕ
  pub counts : List ℕ

-- the state after the items
abbrev pub state_of : Expr → List Item → State
state_of e x = record { node = reached x 0; counts = counters (λ r. begun r x 0) 0 e }

-- a state as 66 bytes
abbrev pub state_bytes : State → List ℕ
state_bytes z = in_twos (z.node ∷ padded z.counts)

-- the run reaches the state: the items of some reading up to the run's last event have its codes and that state
pub data Reaches (e : Expr) (run : List ℕ) : State → Type 0 where
  reaches : (x : List Item) → Reading 0 e x → codes (up_to x (length run)) ≡ run → Reaches e run (state_of e (up_to x (length run)))

-- the run reaches the state that the bytes hold
abbrev pub ReachesBytes : Expr → List ℕ → List ℕ → Type 0
ReachesBytes e run bytes = (z : State) × Reaches e run z × (bytes ≡ state_bytes z)
