-- The procedure file: free text, node records, trailer; and the refusals 1 to 7.
use Rattle.std.specs.Prelude.{◌≡◌, List, [], ◌∷◌, ◌++◌, ℕ, suc, ◌+◌, ◌-◌, ◌*◌, ◌≤◌, ◌<◌, length, take, drop}
use Rattle.meaning.specs.declared.Refusal.{Refusal}
use Rattle.meaning.specs.declared.Refusal.TheVariants.{Size, Letters, Measures, Record, Order, Repeats, Conflict}
use Rattle.meaning.specs.declared.ConflictKind.{ConflictKind}
use Rattle.meaning.specs.declared.Words.{Words}
use Rattle.meaning.specs.Expr.{Expr, size}
use Rattle.meaning.specs.Bytes.{byte_at, two_at, four_at}
use Rattle.meaning.specs.Node.{Node, node, InTable, Stands, InOrder, repeats_below}
use Rattle.meaning.specs.Strong.{StronglyDeterministic}
use Rattle.meaning.specs.Conflict.{LowestConflict, SharedCodes, kind_number}

-- the trailer's four letters
abbrev pub letters : List ℕ → List ℕ
letters f = take 4 (drop (length f - 12) f)

-- n, in 2 bytes
abbrev pub count : List ℕ → ℕ
count f = two_at f (length f - 8)

-- the edition, in 2 bytes
abbrev pub edition : List ℕ → ℕ
edition f = two_at f (length f - 6)

-- the distance back from the end of the file to the first node, in 4 bytes
abbrev pub distance : List ℕ → ℕ
distance f = four_at f (length f - 4)

-- the bytes that n node records and the trailer take
abbrev pub span : ℕ → ℕ
span n = 12 + 8 * n

-- the node record whose 8 bytes stand from `at` on
abbrev pub record_at : List ℕ → ℕ → Node
record_at f at = node (byte_at f at) (byte_at f (at + 1)) (two_at f (at + 2)) (two_at f (at + 4)) (two_at f (at + 6))

-- the file's node i
abbrev pub node_at : List ℕ → ℕ → Node
node_at f i = record_at f (length f - span (count f) + 8 * i)

-- from 20 to 8,204 bytes
abbrev pub Sized : List ℕ → Type 0
Sized f = (20 ≤ length f) × (length f ≤ 8204)

-- the letters are SEQP and the edition is 1
abbrev pub Lettered : List ℕ → Type 0
Lettered f = (letters f ≡ 83 ∷ 69 ∷ 81 ∷ 80 ∷ []) × (edition f ≡ 1)

-- n is from 1 to 512, the distance is 12 + 8 × n, the nodes are within the file, the text is at most 4,096 bytes
abbrev pub Measured : List ℕ → Type 0
Measured f =
    (1 ≤ count f) × (count f ≤ 512) × (distance f ≡ span (count f)) × (span (count f) ≤ length f) × (length f - span (count f) ≤ 4096)

-- none of 1 to 3 applies
abbrev pub Framed : List ℕ → Type 0
Framed f = Sized f × Lettered f × Measured f

-- every node record below i keeps to the table
abbrev pub TableBelow : List ℕ → ℕ → Type 0
TableBelow f i = (j : ℕ) → j < i → InTable (node_at f j)

-- every node below i is in order
abbrev pub OrderBelow : List ℕ → ℕ → Type 0
OrderBelow f i = (j : ℕ) → j < i → InOrder (node_at f) j

-- the file's nodes are the expression in postfix order from number 0, its root the last
abbrev pub Lists : List ℕ → Expr → Type 0
Lists f e = Stands (node_at f) 0 e × (size e ≡ count f)

-- none of 1 to 5 applies, and the file lists the expression
pub record WellFormed (f : List ℕ) (e : Expr) : Type 0 where
  pub framed : Framed f
  pub table : TableBelow f (count f)
  pub lists : Lists f e

-- the file is refused with one of 1 to 6: none before it in the table applies, and no lower node has it
pub data Refused (f : List ℕ) : Refusal → Type 0 where
  by_size : ¬ Sized f → Refused f Size
  by_letters : Sized f → ¬ Lettered f → Refused f Letters
  by_measures : Sized f → Lettered f → ¬ Measured f → Refused f Measures
  by_record : (i : ℕ) → Framed f → i < count f → TableBelow f i → ¬ InTable (node_at f i) → Refused f (Record i)
  by_order : (i : ℕ) → Framed f → TableBelow f (count f) → i < count f → OrderBelow f i → ¬ InOrder (node_at f) i → Refused f (Order i)
  by_root : (i : ℕ) → Framed f → TableBelow f (count f) → OrderBelow f (count f) → ((e : Expr) → ¬ Lists f e) → suc i ≡ count f → Refused f (Order i)
  by_repeats : (e : Expr) (i : ℕ) → WellFormed f e → i < count f → repeats_below (node_at f) i ≡ 32 → repeats_below (node_at f) (suc i) ≡ 33 → Refused f (Repeats i)

-- none of 1 to 6 applies, and the file lists the expression
pub record Holds (f : List ℕ) (e : Expr) : Type 0 where
  pub formed : WellFormed f e
  pub few : repeats_below (node_at f) (count f) ≤ 32

-- the file is refused with one of 1 to 7
pub data Barred (f : List ℕ) : Refusal → Type 0 where
  malformed : {r : Refusal} → Refused f r → Barred f r
  conflicting : (e : Expr) (i : ℕ) (k : ConflictKind) (c : ℕ) (w : Words) (n : ℕ) → Holds f e → LowestConflict e i (kind_number k) c
      → SharedCodes e i (kind_number k) w.low w.high n → Barred f (Conflict i k c w n)

-- the file is admitted: none of 1 to 6 applies, and its expression is strongly deterministic
pub record Admitted (f : List ℕ) (e : Expr) : Type 0 where
  pub holds : Holds f e
  pub strong : StronglyDeterministic e

-- the files have the same n node records, n from 1 to 512, and the same trailer, each after free text of 0 to 4,096 bytes
pub data SameButText : List ℕ → List ℕ → Type 0 where
  same_but_text : (text other rest : List ℕ) → length text ≤ 4096 → length other ≤ 4096 → length rest ≡ span (count rest)
      → 1 ≤ count rest → count rest ≤ 512 → SameButText (text ++ rest) (other ++ rest)
