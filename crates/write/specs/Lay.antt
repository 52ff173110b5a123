-- What a part lays of a run: the items of its reading, one after the other. A model of our code, and no promise.
use Rattle.std.specs.Prelude.{◌≡◌, List, [], ◌∷◌, ◌++◌, map, ℕ, ◌+◌, ◌-◌, ◌*◌, ◌≤◌, ◌<◌, length, drop, get_or, Option, Some, None}
use Rattle.codes.specs.Codes.{Codes, Contains, no_codes}
use Rattle.meaning.specs.Expr.{Expr, root}
use Rattle.meaning.specs.Node.{Node, Stands}
use Rattle.meaning.specs.Reading.{Item, Reading, codes}
use Rattle.meaning.specs.Record.{item_number}
use Rattle.meaning.specs.Sets.{First, After}
use Rattle.meaning.specs.Theory.Conflicts.{Free}
use Rattle.procedure.specs.declared.bounds.Bounds.{Bounds}
use Rattle.procedure.specs.Entry.{held}
use Rattle.procedure.specs.Opening.{BoundsAt}
use Rattle.procedure.specs.Listing.{Listing, TellsNulls}
use Rattle.record.specs.Put.{puts}
use Rattle.sets.specs.Tables.{TellsSets}
use Rattle.write.specs.declared.lay.Places.{Places}
use Rattle.write.specs.declared.lay.Source.{Source}

-- the next code of the run is in the set
abbrev pub NextIn : Codes → List ℕ → ℕ → Type 0
NextIn set run at = (at < length run) × Contains set (get_or run at 0)

-- what comes next does not continue the items of the part: it is not in first, where they hold no event, and not in after, where they do
abbrev pub Detached : Expr → List Item → List ℕ → Type 0
Detached e x [] = Unit {0}
Detached e x (c ∷ w) = (codes x ≡ [] → ¬ First e c) × (1 ≤ length (codes x) → ¬ After e c)

-- the items laid and what is left of the codes, or that no reading begins them
pub data Division : Type 0 where
  into : List Item → List ℕ → Division
  never : Division

-- of the readings P of the part e one stands before what is left
abbrev pub Divided : (List Item → Type 0) → List ℕ → Division → Type 0
Divided P w (into x v) = P x × (w ≡ codes x ++ v)
Divided P w never = Unit {0}

-- the readings P of the part e lay the codes w up to what is left, and nothing else: every reading that the codes begin with, where
-- what comes next does not continue it, is the one laid
pub record Lays (P : List Item → Type 0) (e : Expr) (w : List ℕ) (r : Division) : Type 0 where
  pub divided : Divided P w r
  pub only : (x : List Item) (t : List ℕ) → P x → w ≡ codes x ++ t → Detached e x t → r ≡ into x t

-- the walk tells what is laid, and the space has it from place `to` on
abbrev pub Reported : List ℕ → List ℕ → ℕ → Division → Option Places → List ℕ → Type 0
Reported run space to (into x v) (Some p) after =
    (v ≡ drop p.event run) × (p.item ≡ to + length x) × (after ≡ puts space to (map item_number x))
Reported run space to (into x v) None after = ⊥
Reported run space to never (Some p) after = ⊥
Reported run space to never None after = Unit {0}

-- the part of node i, from these places on, lays no item from this place on: a reading has at most 2 i + 1 items for each event
unfoldable pub reach : List ℕ → ℕ → ℕ → ℕ → ℕ
reach run i at to = to + (2 * i + 1) * (length run - at)

-- the walk does not go back, nor past the end, nor further than the part reaches
abbrev pub Advances : List ℕ → ℕ → Places → Option Places → Type 0
Advances run i from (Some p) = (from.event ≤ p.event) × (p.event ≤ length run) × (reach run i p.event p.item ≤ reach run i from.event from.item)
Advances run i from None = Unit {0}

-- the places are such that no number of the walk grows too large
pub record Leeway (run : List ℕ) (i : ℕ) (at : Places) : Type 0 where
  pub short : length run ≤ 65536
  pub inside : at.event ≤ length run
  pub fits : reach run i at.event at.item ≤ 134217728

-- the record of a node, how many there are, and the run
abbrev pub node_of : Source → ℕ → Node
node_of a = held a.procedure.now.nodes

abbrev pub count_of : Source → ℕ
count_of a = a.procedure.now.count

abbrev pub run_of : Source → List ℕ
run_of a = a.run.now

-- the nodes are those of the expression
abbrev pub Lists : Source → Expr → Type 0
Lists a e = Listing a.procedure.now.nodes (count_of a) e

-- they are those of some expression, and the tables have the empty words and first of each of its parts
pub record Ready (a : Source) : Type 0 where
  pub expr : Expr
  pub lists : Lists a expr
  pub tells_nulls : TellsNulls (node_of a) a.procedure.now.nulls (count_of a)
  pub tells_sets : TellsSets First (node_of a) a.firsts.now (count_of a)

-- the next code of the run is in first of the part of node i
abbrev pub Begins : Source → ℕ → ℕ → Type 0
Begins a i at = NextIn (get_or a.firsts.now i no_codes) (run_of a) at

-- the part of node i lays the run from these places on as the walk says
pub record LaysAt (a : Source) (space : List ℕ) (i : ℕ) (from : Places) (r : Option Places) (after : List ℕ) : Type 0 where
  pub lays : (s : ℕ) (e : Expr) → Stands (node_of a) s e → root s e ≡ i → Free e
      → (q : Division) × Lays (Reading s e) e (drop from.event (run_of a)) q × Reported (run_of a) space from.item q r after

-- node i is a repeat, and these are its bounds
abbrev pub BoundsHere : Source → ℕ → Bounds → Type 0
BoundsHere a i b = BoundsAt a.procedure.now i b
