-- The lowest of some conflicts: of the same ones told otherwise, and of two groups of which one comes first. Assumes nothing.
use mathlib.Core.Logic.Iff
use mathlib.Core.Logic.{◌↔◌, ◌⊎◌, inl, inr, ⊎_elim}
use mathlib.Core.Path.{◌≡◌}
use Prim.Native.Nat.{ℕ, ◌<◌}
use native.Mathlib.Omega.{arith}
use native.Mathlib.Nat.{le_of_eq}
use Rattle.std.specs.Prelude.{Option, Some, None, MatchOption}
use Rattle.std.specs.Option.{option_or}
use Rattle.meaning.specs.Conflict.{kind_number}
use Rattle.sets.specs.Lowest.{Clash, Conflicts, Lowest, LowestOf}

abbrev pub Either : Conflicts → Conflicts → Conflicts
Either R S i k c = R i k c ⊎ S i k c

abbrev pub Same : Conflicts → Conflicts → Type 0
Same R S = (i k c : ℕ) → R i k c ↔ S i k c

-- each conflict of R comes before each of S, by its node or, at one node, by its kind
abbrev pub Ahead : Conflicts → Conflicts → Type 0
Ahead R S = (i k c j l d : ℕ) → R i k c → S j l d → (i < j) ⊎ ((i ≡ j) × (k < l))

module _ (R S : Conflicts) where
  pub lowest_same : Same R S → (x : Option Clash) → Lowest R x → Lowest S x
  lowest_same e None never = λ i k c s. never i k c ((e i k c).1 s)
  lowest_same e (Some x) n = record {
    shares = λ c. Iff.trans (n.shares c) (e x.node (kind_number x.kind) c);
    least = n.least;
    lowest_node = λ i k c s. n.lowest_node i k c ((e i k c).1 s);
    lowest_kind = λ k c s. n.lowest_kind k c ((e x.node k c).1 s);
  }

  -- of two groups: that of the first, where it has a conflict
  lowest_first : Ahead R S → (x : Clash) → LowestOf R x → LowestOf (Either R S) x
  lowest_first ahead x n =
      let there = (n.shares x.code).0 n.least.holds in
      record {
        shares = λ d. (
          λ w. inl ((n.shares d).0 w),
          ⊎_elim (n.shares d).1 (λ s. ⊎_elim (λ l. absurd (omega arith)) (λ l. let g = l.1 in absurd (omega arith)) (ahead _ _ x.code _ _ d there s)),
        );
        least = n.least;
        lowest_node = λ i k d. ⊎_elim (n.lowest_node i k d) (λ s. ⊎_elim (λ l. omega arith) (λ l. le_of_eq l.0) (ahead _ _ x.code i k d there s));
        lowest_kind = λ k d. ⊎_elim (n.lowest_kind k d) (λ s. ⊎_elim (λ l. absurd (omega arith)) (λ l. let g = l.1 in omega arith) (ahead _ _ x.code _ k d there s));
      }

pub lowest_either : (R S : Conflicts) → Ahead R S → (x y : Option Clash) → Lowest R x → Lowest S y → Lowest (Either R S) (option_or x y)
lowest_either R S ahead (Some x) y n m = lowest_first R S ahead x n
lowest_either R S ahead None y never m =
    lowest_same S (Either R S) (λ i k c. (inr, ⊎_elim (λ r. absurd (never i k c r)) (λ s. s))) y m

-- and where the second is looked for only if the first has none
pub lowest_or_else : (R S : Conflicts) → Ahead R S → (x own : Option Clash) → Lowest R x → MatchOption x (Lowest S own) (λ y. own ≡ Some y)
    → Lowest (Either R S) own
lowest_or_else R S ahead (Some x) own n told = rw told (lowest_first R S ahead x n)
lowest_or_else R S ahead None own never m =
    lowest_same S (Either R S) (λ i k c. (inr, ⊎_elim (λ r. absurd (never i k c r)) (λ s. s))) own m
