-- The four conflicts.
use Rattle.std.specs.Prelude.{◌≡◌, ◌⊎◌, ℕ, ◌+◌}
use Rattle.std.proofs.Math.Bool.{So}
use Rattle.meaning.specs.declared.ConflictKind.{ConflictKind}
use Rattle.meaning.specs.declared.ConflictKind.TheVariants as kinds
use Rattle.meaning.specs.Properties.{Least, CountBelow}
use Rattle.meaning.specs.Codes.{Has, SetInWords, in_words, most_code}
use Rattle.meaning.specs.Expr.{Expr, empty, event, choice, sequence, repeat, Within, Part}
use Rattle.meaning.specs.Normal.{nullable}
use Rattle.meaning.specs.Sets.{First, After}

-- the part's own node has a conflict of the kind, and the code is one of the shared codes
abbrev pub Conflict : Expr → ℕ → ℕ → Type 0
Conflict empty kind c = ⊥
Conflict (event d) kind c = ⊥
Conflict (choice l r) kind c = (kind ≡ 1) × First l c × First r c
Conflict (sequence l r) kind c =
    ((kind ≡ 2) × So (nullable l) × First l c × First r c) ⊎ ((kind ≡ 3) × After l c × First r c)
Conflict (repeat b lower upper) kind c = (kind ≡ 4) × Within 2 upper × After b c × First b c

-- the number of a kind
abbrev pub kind_number : ConflictKind → ℕ
kind_number kinds.Choice = 1
kind_number kinds.EmptyLeft = 2
kind_number kinds.AfterLeft = 3
kind_number kinds.Repeat = 4

-- node i has a conflict of the kind with the code, in the expression that begins at s
abbrev pub ConflictAt : ℕ → Expr → ℕ → ℕ → ℕ → Type 0
ConflictAt s e i kind c = (p : Expr) × Part s e i p × Conflict p kind c

-- the lowest-numbered node with a conflict, there the lowest kind, and the lowest of its shared codes
pub record LowestConflict (e : Expr) (i k c : ℕ) : Type 0 where
  pub node : Least (λ j. (l : ℕ) × (d : ℕ) × ConflictAt 0 e j l d) i
  pub kind : Least (λ l. (d : ℕ) × ConflictAt 0 e i l d) k
  pub code : Least (ConflictAt 0 e i k) c

-- all the codes that node i shares in its conflict of the kind, as a set in two words, and how many they are
pub record SharedCodes (e : Expr) (i kind low high n : ℕ) : Type 0 where
  pub set : SetInWords (ConflictAt 0 e i kind) low high
  pub count : CountBelow (Has (in_words low high)) (most_code + 1) n
