-- What the table test finds. A model of our code, and no promise.
use Rattle.std.specs.Prelude.{◌≡◌, Option, Some, None, Result, Ok, Err, List, ℕ, ◌<◌}
use Rattle.meaning.specs.declared.Refusal.{Refusal}
use Rattle.meaning.specs.declared.Refusal.TheVariants.{Record}
use Rattle.meaning.specs.File.{TableBelow, node_at}
use Rattle.meaning.specs.Node.{Node, InTable}
use Rattle.procedure.specs.Entry.{Entry, Nodes, Tied, record_of}

-- the node of the record, or none where the record breaks the table
abbrev pub NodeOf : Node → Option Entry → Type 0
NodeOf m (Some x) = (record_of x ≡ m) × InTable m
NodeOf m None = ¬ InTable m

-- the first n nodes are those of the file, and each keeps to the table; or the lowest that breaks it is named
pub data ReadsNodes (f : List ℕ) (nodes : Nodes) (n : ℕ) : Result Unit Refusal → Type 0 where
  all : Tied f nodes n → TableBelow f n → ReadsNodes f nodes n (Ok tt)
  off : (i : ℕ) → i < n → TableBelow f i → ¬ InTable (node_at f i) → ReadsNodes f nodes n (Err (Record i))
