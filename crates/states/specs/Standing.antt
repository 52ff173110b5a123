-- Where a run can stand, and the test of each repeat's counter. A model of our code, and no promise.
use Rattle.std.specs.Prelude.{◌≡◌, ◌⊎◌, Bool, false, List, ℕ, ◌+◌, ◌-◌, ◌≤◌, ◌<◌, get_or, Option, Some, None}
use Rattle.meaning.specs.Expr.{Expr}
use Rattle.meaning.specs.Node.{Node, bound}
use Rattle.meaning.specs.Normal.{low}
use Rattle.meaning.specs.Promises.{NoneReaches}
use Rattle.meaning.specs.Theory.Places.{node_of}
use Rattle.meaning.specs.Theory.Spots.{Spot, start, behind, Safe}
use Rattle.meaning.specs.Theory.Counts.{Marked, Unmarked, most}
use Rattle.procedure.specs.Entry.{Nodes, held, lower_of, upper_of}
use Rattle.states.specs.declared.standing.Standing.{Standing}
use Rattle.states.specs.StateBytes.{Decoded, place_of}

-- the node and the counters are those of the spot
abbrev pub AtSpot : (e : Expr) → Spot e → ℕ → List ℕ → Type 0
AtSpot e start node counts = (node ≡ 0) × Unmarked counts
AtSpot e (behind p) node counts = (node ≡ node_of 0 e p + 1) × Marked counts e p

-- the run stands at the spot
abbrev pub StandsAt : (e : Expr) → Spot e → Standing → Type 0
StandsAt e k s = AtSpot e k (place_of s.reached) s.counts

-- a run can stand at the node with the counters
abbrev pub CanStand : Expr → ℕ → List ℕ → Type 0
CanStand e node counts = (k : Spot e) × Safe e k × AtSpot e k node counts

-- the largest number that the counter of a repeat holds, by its node and whether its body has the empty word
abbrev pub cap_of : Node → Bool → ℕ
cap_of m null = most (low null (lower_of m)) (bound (upper_of m))

-- c is what the counter of a repeat at node y may hold where event node p is reached, and its part begins at s and it counts up to m
pub data Fits (s m y p c : ℕ) : Type 0 where
  apart : (p < s) ⊎ (y ≤ p) → c ≡ 0 → Fits s m y p c
  around : s ≤ p → p < y → 1 ≤ c → c ≤ m → Fits s m y p c

-- the same by the tables
abbrev pub FitsAt : Nodes → List ℕ → List Bool → ℕ → ℕ → ℕ → Type 0
FitsAt nodes starts nulls y p c = Fits (get_or starts y 0) (cap_of (held nodes y) (get_or nulls (y - 1) false)) y p c

-- so it is at each of r repeats that are listed
abbrev pub AllFit : Nodes → List ℕ → List Bool → List ℕ → List ℕ → ℕ → ℕ → Type 0
AllFit nodes starts nulls repeats counts p r = (k : ℕ) → k < r → FitsAt nodes starts nulls (get_or repeats k 0) p (get_or counts k 0)

-- the counters from rank k on are 0
abbrev pub ClearFrom : List ℕ → ℕ → Type 0
ClearFrom counts k = (j : ℕ) → k ≤ j → get_or counts j 0 ≡ 0

-- what is read from the bytes of a state
abbrev pub ReadOf : Expr → List ℕ → Option Standing → Type 0
ReadOf e bytes (Some s) = Decoded bytes (place_of s.reached) s.counts × CanStand e (place_of s.reached) s.counts
ReadOf e bytes None = NoneReaches e bytes
