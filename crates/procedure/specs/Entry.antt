-- Nodes as the code holds them, and the records of the table that they stand for. A model of our code, and no promise.
use Rattle.std.specs.Prelude.{◌≡◌, List, ℕ, ◌≤◌, ◌<◌, get_or}
use Rattle.meaning.specs.Node.{Node, UpperWritten, node}
use Rattle.meaning.specs.File.{node_at}
use Rattle.procedure.specs.declared.node.Node as code
use Rattle.procedure.specs.declared.node.Node.TheVariants as entry

-- a node as the code holds it
abbrev pub Entry : Type 0
Entry = code.Node

abbrev pub Nodes : Type 0
Nodes = List Entry

-- the record of a node
abbrev pub record_of : Entry → Node
record_of entry.Empty = node 0 0 0 0 0
record_of (entry.Event c) = node 1 c 0 0 0
record_of (entry.Choice left right) = node 2 0 left right 0
record_of (entry.Sequence left right) = node 3 0 left right 0
record_of (entry.Repeat body lower upper) = node 4 0 body lower upper

-- what the table calls the numbers of a node
abbrev pub kind_of : Node → ℕ
kind_of (node kind code x y z) = kind

abbrev pub code_of : Node → ℕ
code_of (node kind code x y z) = code

abbrev pub left_of : Node → ℕ
left_of (node kind code left y z) = left

abbrev pub right_of : Node → ℕ
right_of (node kind code x right z) = right

abbrev pub body_of : Node → ℕ
body_of (node kind code body y z) = body

abbrev pub lower_of : Node → ℕ
lower_of (node kind code x lower z) = lower

abbrev pub upper_of : Node → ℕ
upper_of (node kind code x y upper) = upper

-- the bounds of a repeat keep to the table
abbrev pub BoundsWritten : ℕ → ℕ → Type 0
BoundsWritten lower upper = (lower ≤ 4096) × UpperWritten upper × (lower ≤ upper)

-- the record of node i of the array
abbrev pub held : Nodes → ℕ → Node
held nodes i = record_of (get_or nodes i entry.Empty)

-- the first n nodes of the array are those of the file
abbrev pub Tied : List ℕ → Nodes → ℕ → Type 0
Tied f nodes n = (i : ℕ) → i < n → held nodes i ≡ node_at f i
