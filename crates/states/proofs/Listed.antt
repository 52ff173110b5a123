-- The list of the repeats has each of them, at its rank. Assumes nothing.
use mathlib.Core.Path.{◌≡◌, subst}
use mathlib.Core.Logic.{⊎_elim}
use mathlib.Core.List.{List}
use Prim.Native.Nat.{ℕ, suc, ◌<◌}
use native.Mathlib.Omega.{arith}
use lib.ListN.{get_or}
use Rattle.meaning.specs.Node.{Node, repeats_below}
use Rattle.meaning.proofs.File.Ranks.{below_rises}
use Rattle.procedure.specs.Entry.{kind_of}
use Rattle.procedure.specs.Listing.{TellsRepeats}
use Rattle.procedure.proofs.Counting.{repeat_counts}
use Rattle.states.proofs.StateBytes.{below_or_from}

-- a repeat counts for the nodes above it
rank_below : (g : ℕ → Node) (y n : ℕ) → kind_of (g y) ≡ 4 → y < n → repeats_below g y < repeats_below g n
rank_below g y n kind l = omega (arith, repeat_counts (g y) kind, below_rises g (suc y) n l)

-- so two repeats with one rank are one
same_repeat : (g : ℕ → Node) (y z : ℕ) → kind_of (g y) ≡ 4 → kind_of (g z) ≡ 4 → repeats_below g y ≡ repeats_below g z → y ≡ z
same_repeat g y z a b e =
    ⊎_elim (λ l. absurd (omega (arith, rank_below g y z a l)))
    (λ h. ⊎_elim (λ l. absurd (omega (arith, rank_below g z y b l))) (λ k. omega arith) (below_or_from z y))
    (below_or_from y z)

-- what holds of each listed repeat and its rank holds of each repeat
pub listed_all : (g : ℕ → Node) (list : List ℕ) (n r : ℕ) (P : ℕ → ℕ → Type 0) → TellsRepeats g list n r
    → ((k : ℕ) → k < r → P (get_or list k 0) k) → (y : ℕ) → y < n → kind_of (g y) ≡ 4 → P y (repeats_below g y)
listed_all g list n r P told f y l kind =
    let below = rank_below g y n kind l in
    let k = repeats_below g y in
    let few : k < r = omega (arith, told.counted) in
    let at = told.each k few in
    subst (λ (z : ℕ). P z k) (same_repeat g (get_or list k 0) y at.repeats kind at.rank) (f k few)
