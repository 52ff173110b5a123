-- First and after: as worked out from the children, and as worded.
use Rattle.std.specs.Prelude.{◌≡◌, ◌⊎◌, List, ◌∷◌, ◌++◌, ℕ, ◌+◌, ◌≤◌, length}
use Rattle.std.proofs.Math.Bool.{So}
use Rattle.meaning.specs.Expr.{Expr, empty, event, choice, sequence, repeat, Upper, Within}
use Rattle.meaning.specs.Normal.{nullable, low}
use Rattle.meaning.specs.Word.{Word}

-- the code is in first of the part, as worked out from the children
abbrev pub First : Expr → ℕ → Type 0
First empty c = ⊥
First (event d) c = c ≡ d
First (choice l r) c = First l c ⊎ First r c
First (sequence l r) c = First l c ⊎ (So (nullable l) × First r c)
First (repeat b lower upper) c = First b c

-- the part has an event to begin with
abbrev pub Starts : Expr → Type 0
Starts e = (c : ℕ) × First e c

-- a repeat may stop or go on after a block: upper is at least 2, and the normal-form lower is below upper
abbrev pub Flexible : ℕ → Upper → Type 0
Flexible lower upper = Within 2 upper × Within (lower + 1) upper

-- the code is in after of the part, as worked out from the children
abbrev pub After : Expr → ℕ → Type 0
After empty c = ⊥
After (event d) c = ⊥
After (choice l r) c = After l c ⊎ After r c
After (sequence l r) c = After r c ⊎ (So (nullable r) × (After l c ⊎ (Starts l × First r c)))
After (repeat b lower upper) c = After b c ⊎ (Flexible (low (nullable b) lower) upper × First b c)

-- first as worded: the code begins a word of the part
unfoldable pub FirstWorded : Expr → ℕ → Type 0
FirstWorded e c = (w : List ℕ) × Word e (c ∷ w)

-- after as worded: v and v b w are both words of the part, for a non-empty v and some w
unfoldable pub AfterWorded : Expr → ℕ → Type 0
AfterWorded e b = (v w : List ℕ) × (1 ≤ length v) × Word e v × Word e (v ++ (b ∷ w))
