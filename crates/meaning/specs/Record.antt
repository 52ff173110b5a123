-- The record of a reading, as bytes.
use Rattle.std.specs.Prelude.{List, map, ℕ, ◌+◌, ◌*◌}
use Rattle.meaning.specs.Bytes.{in_twos}
use Rattle.meaning.specs.Reading.{Item, place, opening, closing}

-- the node of an item
abbrev pub item_node : Item → ℕ
item_node (place i c) = i
item_node (opening r) = r
item_node (closing r) = r

-- mark 0 event, 1 opening, 2 closing
abbrev pub mark : Item → ℕ
mark (place i c) = 0
mark (opening r) = 1
mark (closing r) = 2

-- an item is 2 bytes: node + 4,096 × mark
abbrev pub item_number : Item → ℕ
item_number x = item_node x + 4096 * mark x

-- the record of the items
abbrev pub record_bytes : List Item → List ℕ
record_bytes x = in_twos (map item_number x)
