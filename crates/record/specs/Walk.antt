-- What a part takes of the items of a record. A model of our code, and no promise.
use Rattle.std.specs.Prelude.{◌≡◌, Bool, List, [], ◌∷◌, ◌++◌, map, ℕ, ◌+◌, ◌*◌, ◌%◌, ◌≤◌, length, drop, Option, Some, None}
use Rattle.meaning.specs.Expr.{Expr, root}
use Rattle.meaning.specs.Node.{Node, Stands}
use Rattle.meaning.specs.Reading.{Item, Reading}
use Rattle.meaning.specs.Record.{item_number, record_bytes}
use Rattle.procedure.specs.declared.Procedure.{Procedure}
use Rattle.procedure.specs.Entry.{Nodes, held}
use Rattle.procedure.specs.Listing.{Listing, OneOf, Spans, TellsNulls}
use Rattle.procedure.specs.Tests.{Decides}

-- the nodes s to i are a part of the procedure, whose table tells of each node up to i whether its part has the empty word
pub record PartAt (p : Procedure) (s i : ℕ) : Type 0 where
  pub one_of : OneOf p.nodes i
  pub spans : Spans (held p.nodes) s i
  pub tells_nulls : TellsNulls (held p.nodes) p.nulls (i + 1)

-- the numbers of the items that the bytes hold, two bytes each
abbrev pub items_in : List ℕ → List ℕ
items_in [] = []
items_in (a ∷ []) = []
items_in (a ∷ b ∷ bytes) = (a + 256 * b) ∷ items_in bytes

-- the number names one of the nodes s to i
abbrev pub Inside : ℕ → ℕ → ℕ → Type 0
Inside s i n = (s ≤ n % 4096) × (n % 4096 ≤ i)

-- there is an item, and its number does
abbrev pub Names : ℕ → ℕ → Option ℕ → Type 0
Names s i (Some n) = Inside s i n
Names s i None = ⊥

-- the numbers do not begin with one that does
abbrev pub Outside : ℕ → ℕ → List ℕ → Type 0
Outside s i [] = Unit {0}
Outside s i (n ∷ w) = ¬ Inside s i n

-- what is left of the numbers, or that none of the readings begins them
pub data Remainder : Type 0 where
  from : List ℕ → Remainder
  nowhere : Remainder

-- a list of P stands before what is left
abbrev pub Eaten : (List Item → Type 0) → List ℕ → Remainder → Type 0
Eaten P w (from v) = (x : List Item) × P x × (w ≡ map item_number x ++ v)
Eaten P w nowhere = Unit {0}

-- the readings P of the part with the nodes s to i take the numbers w up to what is left, and nothing else: every reading that
-- the numbers begin with, where the rest does not begin inside the part, leaves just that
pub record Eats (P : List Item → Type 0) (s i : ℕ) (w : List ℕ) (r : Remainder) : Type 0 where
  pub eaten : Eaten P w r
  pub only : (x : List Item) (t : List ℕ) → P x → w ≡ map item_number x ++ t → Outside s i t → r ≡ from t

-- what is left of the numbers after a walk
abbrev pub remainder_of : List ℕ → Option ℕ → Remainder
remainder_of w (Some t) = from (drop t w)
remainder_of w None = nowhere

-- the part with the nodes s to i takes the numbers from place `at` on as the walk says
unfoldable pub EatsAt : (ℕ → Node) → List ℕ → ℕ → ℕ → ℕ → Option ℕ → Type 0
EatsAt g w s i at r = (e : Expr) → Stands g s e → root s e ≡ i → Eats (Reading s e) s i (drop at w) (remainder_of w r)

-- the walk does not go back, nor past the end
abbrev pub Onward : List ℕ → ℕ → Option ℕ → Type 0
Onward w at (Some t) = (at ≤ t) × (t ≤ length w)
Onward w at None = Unit {0}

-- the answer says whether the bytes are the record of a reading of the expression that the n nodes list
unfoldable pub RecordOf : Nodes → ℕ → List ℕ → Bool → Type 0
RecordOf nodes n bytes found =
    (e : Expr) → Listing nodes n e → Decides ((x : List Item) × Reading 0 e x × (bytes ≡ record_bytes x)) found
