-- What whoever stands above the file may ask of its entries and tables. A model of our code, and no promise.
use Rattle.std.specs.Prelude.{◌≡◌, Bool, false, List, ℕ, ◌≤◌, ◌<◌, get_or}
use Rattle.meaning.specs.Expr.{Expr, root, size}
use Rattle.meaning.specs.Node.{Node, InTable, Stands, repeats_below}
use Rattle.meaning.specs.Normal.{nullable}
use Rattle.procedure.specs.Entry.{Nodes, held, kind_of}

-- the first n entries are the nodes of the expression in postfix order, each as the table has it
pub record Listing (nodes : Nodes) (n : ℕ) (e : Expr) : Type 0 where
  pub stands : Stands (held nodes) 0 e
  pub sized : size e ≡ n
  pub few : n ≤ 512
  pub table : (i : ℕ) → i < n → InTable (held nodes i)

-- i is one of the nodes of an expression that the entries list
abbrev pub OneOf : Nodes → ℕ → Type 0
OneOf nodes i = (n : ℕ) × (e : Expr) × Listing nodes n e × (i < n)

-- a part spans the nodes s to i
abbrev pub Spans : (ℕ → Node) → ℕ → ℕ → Type 0
Spans g s i = (e : Expr) × Stands g s e × (root s e ≡ i)

-- the table tells of each node below n where its part begins
unfoldable pub TellsStarts : (ℕ → Node) → List ℕ → ℕ → Type 0
TellsStarts g starts n = (i : ℕ) → i < n → Spans g (get_or starts i 0) i

-- the answer says whether the part of node i has the empty word
unfoldable pub NullAt : (ℕ → Node) → ℕ → Bool → Type 0
NullAt g i null = (s : ℕ) (e : Expr) → Stands g s e → root s e ≡ i → null ≡ nullable e

-- the table tells of each node below n whether its part has the empty word
unfoldable pub TellsNulls : (ℕ → Node) → List Bool → ℕ → Type 0
TellsNulls g nulls n = (i : ℕ) → i < n → NullAt g i (get_or nulls i false)

-- node y is a repeat, below n, and k repeats stand below it
pub record RepeatAt (g : ℕ → Node) (n k y : ℕ) : Type 0 where
  pub below : y < n
  pub repeats : kind_of (g y) ≡ 4
  pub rank : repeats_below g y ≡ k

-- the list begins with the r repeats below n, in rising order
pub record TellsRepeats (g : ℕ → Node) (list : List ℕ) (n r : ℕ) : Type 0 where
  pub counted : r ≡ repeats_below g n
  pub each : (k : ℕ) → k < r → RepeatAt g n k (get_or list k 0)

-- all that reading a file hands out of its expression of n nodes, of which r are repeats, at most 32
pub record Tables (nodes : Nodes) (starts : List ℕ) (nulls : List Bool) (repeats : List ℕ) (n r : ℕ) (e : Expr) : Type 0 where
  pub listing : Listing nodes n e
  pub begun : TellsStarts (held nodes) starts n
  pub empties : TellsNulls (held nodes) nulls n
  pub ranked : TellsRepeats (held nodes) repeats n r
  pub few_repeats : r ≤ 32
