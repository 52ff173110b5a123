-- No promise, a notion of the proofs: how many counters there are, what they are at a place and at the start, and which fit.
use Rattle.std.specs.Prelude.{◌≡◌, List, [], ◌∷◌, ◌++◌, ℕ, suc, ◌+◌, ◌≤◌, ◌<◌, max, get_or, length}
use Rattle.std.proofs.Common.{inl, inr}
use Rattle.meaning.specs.Expr.{Expr, empty, event, choice, sequence, repeat, Upper, upto, endless}
use Rattle.meaning.specs.Normal.{nullable, low}
use Rattle.meaning.specs.State.{stop, counters, State}
use Rattle.meaning.specs.Theory.Places.{Place, node_of}

-- how many repeats the part has
abbrev pub repeats : Expr → ℕ
repeats empty = 0
repeats (event c) = 0
repeats (choice l r) = repeats l + repeats r
repeats (sequence l r) = repeats l + repeats r
repeats (repeat b lower upper) = repeats b + 1

-- a zero for each of them
abbrev pub zeros : Expr → List ℕ
zeros empty = []
zeros (event c) = []
zeros (choice l r) = zeros l ++ zeros r
zeros (sequence l r) = zeros l ++ zeros r
zeros (repeat b lower upper) = zeros b ++ (0 ∷ [])

-- the counters at the place: a repeat around it has begun one block more than it has completed
abbrev pub place_counts : (e : Expr) → Place e → List ℕ
place_counts empty p = elim p [ ]
place_counts (event c) p = []
place_counts (choice l r) (inl p) = place_counts l p ++ zeros r
place_counts (choice l r) (inr p) = zeros l ++ place_counts r p
place_counts (sequence l r) (inl p) = place_counts l p ++ zeros r
place_counts (sequence l r) (inr p) = zeros l ++ place_counts r p
place_counts (repeat b lower upper) p = place_counts b p.0 ++ (stop (low (nullable b) lower) upper (suc p.1) ∷ [])

-- the state at the place
abbrev pub place_state : (e : Expr) → Place e → State
place_state e p = record { node = node_of 0 e p + 1; counts = place_counts e p }

-- the start state
abbrev pub start_state : Expr → State
start_state e = record { node = 0; counts = counters (λ i. 0) 0 e }

-- the largest number that a counter holds: the upper bound; with none, the larger of 1 and the lower bound
abbrev pub most : ℕ → Upper → ℕ
most lower (upto n) = n
most lower endless = max 1 lower

-- every counter of the part fits in two bytes
abbrev pub Small : Expr → Type 0
Small empty = Unit {0}
Small (event c) = Unit {0}
Small (choice l r) = Small l × Small r
Small (sequence l r) = Small l × Small r
Small (repeat b lower upper) = Small b × (most (low (nullable b) lower) upper < 65536)

-- every number fits in two bytes
abbrev pub Narrow : List ℕ → Type 0
Narrow [] = Unit {0}
Narrow (n ∷ ns) = (n < 65536) × Narrow ns

-- m counters from rank k on are 0
abbrev pub Clear : List ℕ → ℕ → ℕ → Type 0
Clear counts k m = (j : ℕ) → k ≤ j → j < k + m → get_or counts j 0 ≡ 0

-- from rank k on stand the counters of the part's repeats at the place
abbrev pub Held : List ℕ → ℕ → (e : Expr) → Place e → Type 0
Held counts k empty p = ⊥
Held counts k (event c) p = Unit {0}
Held counts k (choice l r) (inl p) = Held counts k l p × Clear counts (k + repeats l) (repeats r)
Held counts k (choice l r) (inr p) = Clear counts k (repeats l) × Held counts (k + repeats l) r p
Held counts k (sequence l r) (inl p) = Held counts k l p × Clear counts (k + repeats l) (repeats r)
Held counts k (sequence l r) (inr p) = Clear counts k (repeats l) × Held counts (k + repeats l) r p
Held counts k (repeat b lower upper) p =
    Held counts k b p.0 × (get_or counts (k + repeats b) 0 ≡ stop (low (nullable b) lower) upper (suc p.1))

-- the 32 counters are those of the place, and 0 past the last repeat
pub record Marked (counts : List ℕ) (e : Expr) (p : Place e) : Type 0 where
  pub holds : Held counts 0 e p
  pub past : (j : ℕ) → repeats e ≤ j → get_or counts j 0 ≡ 0
  pub long : length counts ≡ 32

-- the 32 counters are 0, as at the start
pub record Unmarked (counts : List ℕ) : Type 0 where
  pub none : (j : ℕ) → get_or counts j 0 ≡ 0
  pub long : length counts ≡ 32
