-- What is known of a part, what is worked out of a node, and how that comes from the node's children. A model of our code, and no promise.
use Rattle.std.specs.Prelude.{◌≡◌, Bool, false, ◌↔◌, List, ℕ, Option, get_or}
use Rattle.codes.specs.Codes.{Codes, Contains, no_codes}
use Rattle.meaning.specs.Expr.{Expr, sequence, repeat, root}
use Rattle.meaning.specs.Node.{Node, Stands, bound}
use Rattle.meaning.specs.Normal.{nullable}
use Rattle.meaning.specs.Sets.{First, After}
use Rattle.sets.specs.Lowest.{Clash, Lowest, OwnAt}
use Rattle.sets.specs.declared.joins.PartSets.{PartSets}
use Rattle.sets.specs.declared.joins.NodeSets.{NodeSets}

-- this is known of the part e
pub record PartOf (e : Expr) (p : PartSets) : Type 0 where
  pub empties : p.null ≡ nullable e
  pub firsts : (c : ℕ) → Contains p.first c ↔ First e c
  pub afters : (c : ℕ) → Contains p.after c ↔ After e c

-- this is worked out of the part e
pub record WorkedOut (e : Expr) (x : NodeSets) : Type 0 where
  pub firsts : (c : ℕ) → Contains x.first c ↔ First e c
  pub afters : (c : ℕ) → Contains x.after c ↔ After e c

-- of whatever part stands at node i
unfoldable pub WorkedAt : (ℕ → Node) → ℕ → NodeSets → Type 0
WorkedAt g i x = (s : ℕ) (e : Expr) → Stands g s e → root s e ≡ i → WorkedOut e x

-- of a node without children, wherever it stands
unfoldable pub OfLeaf : Node → NodeSets → Type 0
OfLeaf n x = (g : ℕ → Node) (i : ℕ) → g i ≡ n → WorkedAt g i x

-- after of a sequence, from what is known of its left and of its right
unfoldable pub EndsWith : PartSets → PartSets → Codes → Type 0
EndsWith l r set = (a b : Expr) → PartOf a l → PartOf b r → (c : ℕ) → Contains set c ↔ After (sequence a b) c

-- of a node with two children, from what is known of its left and of its right
unfoldable pub Joins : (Expr → Expr → Expr) → PartSets → PartSets → NodeSets → Type 0
Joins node l r x = (a b : Expr) → PartOf a l → PartOf b r → WorkedOut (node a b) x

-- of a repeat, from what is known of its body
unfoldable pub OverBody : ℕ → ℕ → PartSets → NodeSets → Type 0
OverBody lower upper b x = (e : Expr) → PartOf e b → WorkedOut (repeat e lower (bound upper)) x

-- ---- the lowest conflict of a node itself

-- of whatever part stands at node i
unfoldable pub ClashAt : (ℕ → Node) → ℕ → Option Clash → Type 0
ClashAt g i x = (s : ℕ) (e : Expr) → Stands g s e → root s e ≡ i → Lowest (OwnAt i e) x

-- of a node i with two children, from what is known of its left and of its right
unfoldable pub Clashes : (Expr → Expr → Expr) → ℕ → PartSets → PartSets → Option Clash → Type 0
Clashes node i l r x = (a b : Expr) → PartOf a l → PartOf b r → Lowest (OwnAt i (node a b)) x

-- of a repeat at node i, from what is known of its body, whatever its lower bound
unfoldable pub ClashesOver : ℕ → ℕ → PartSets → Option Clash → Type 0
ClashesOver i upper b x = (e : Expr) (lower : ℕ) → PartOf e b → Lowest (OwnAt i (repeat e lower (bound upper))) x

-- the tables' entries of node j
pub record ReadAt (nulls : List Bool) (firsts afters : List Codes) (j : ℕ) (p : PartSets) : Type 0 where
  pub null : p.null ≡ get_or nulls j false
  pub first : p.first ≡ get_or firsts j no_codes
  pub after : p.after ≡ get_or afters j no_codes
