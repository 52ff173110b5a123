-- The lowest of some conflicts, with all the codes that it shares. A model of our code, and no promise.
use Rattle.std.specs.Prelude.{◌≡◌, ◌↔◌, ℕ, ◌≤◌, Option, Some, None}
use Rattle.codes.specs.Codes.{Codes, Contains, Shared}
use Rattle.meaning.specs.declared.ConflictKind.{ConflictKind}
use Rattle.meaning.specs.Conflict.{Conflict, kind_number}
use Rattle.meaning.specs.Expr.{Expr}
use Rattle.meaning.specs.Properties.{Least}
use Rattle.sets.specs.declared.conflict.Conflict as found

-- a conflict as the code holds it, where kinds are told by values of K
abbrev pub ClashOf : Type 0 → Type 0
ClashOf K = found.Conflict K

-- and where they are the four kinds
abbrev pub Clash : Type 0
Clash = ClashOf ConflictKind

-- conflicts: of which node, kind and code there is one
abbrev pub Conflicts : Type 1
Conflicts = ℕ → ℕ → ℕ → Type 0

-- by these numbers of kinds a conflict is the lowest of the conflicts R: the lowest node, there the lowest kind, and the codes it shares
pub record LowestOfBy {K : Type 0} (number : K → ℕ) (R : Conflicts) (x : ClashOf K) : Type 0 where
  pub shares : (c : ℕ) → Contains x.shared c ↔ R x.node (number x.kind) c
  pub least : Least (Contains x.shared) x.code
  pub lowest_node : (i k c : ℕ) → R i k c → x.node ≤ i
  pub lowest_kind : (k c : ℕ) → R x.node k c → number x.kind ≤ k

-- what is found is the lowest of the conflicts R, or R has none
abbrev pub LowestBy : {K : Type 0} → (K → ℕ) → Conflicts → Option (ClashOf K) → Type 0
LowestBy number R (Some x) = LowestOfBy number R x
LowestBy number R None = (i k c : ℕ) → ¬ R i k c

-- so with the numbers of the four kinds
abbrev pub LowestOf : Conflicts → Clash → Type 0
LowestOf = LowestOfBy kind_number

abbrev pub Lowest : Conflicts → Option Clash → Type 0
Lowest = LowestBy kind_number

-- the conflicts of one node and one kind: the codes that two sets share
abbrev pub SharedAt : ℕ → ℕ → Codes → Codes → Conflicts
SharedAt node kind a b i k c = (i ≡ node) × (k ≡ kind) × Shared a b c

-- a part's own conflicts, at its node n
abbrev pub OwnAt : ℕ → Expr → Conflicts
OwnAt n e i k c = (i ≡ n) × Conflict e k c
