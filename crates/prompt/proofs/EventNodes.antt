-- The event nodes of an expression that stands among the nodes. Assumes nothing.
use mathlib.Core.Path.{◌≡◌, refl}
use Prim.Native.Nat.{ℕ, ◌<◌}
use native.Mathlib.Omega.{arith}
use Rattle.meaning.specs.Expr.{Expr, event, size, Part}
use Rattle.meaning.specs.Node.{node, Stands}
use Rattle.meaning.proofs.File.EventNodes.{stands_part}
use Rattle.procedure.specs.Entry.{Entry, Nodes, held, code_of, kind_of, record_of}
use Rattle.procedure.specs.declared.node.Node.TheVariants as entry

-- a record of kind 1 is that of an event
event_record : (x : Entry) → kind_of (record_of x) ≡ 1 → record_of x ≡ node 1 (code_of (record_of x)) 0 0 0
event_record entry.Empty k = absurd (omega arith)
event_record (entry.Event c) k = refl
event_record (entry.Choice l r) k = absurd (omega arith)
event_record (entry.Sequence l r) k = absurd (omega arith)
event_record (entry.Repeat b lower upper) k = absurd (omega arith)

-- and a node with the record of an event is that event
pub event_of : (x : Entry) (c : ℕ) → record_of x ≡ node 1 c 0 0 0 → x ≡ entry.Event c
event_of entry.Empty c h = absurd (cc)
event_of (entry.Event d) c h = cc
event_of (entry.Choice l r) c h = absurd (cc)
event_of (entry.Sequence l r) c h = absurd (cc)
event_of (entry.Repeat b lower upper) c h = absurd (cc)

-- so a node of kind 1 is an event node of the expression
pub node_event : (nodes : Nodes) (e : Expr) → Stands (held nodes) 0 e → (i : ℕ) → i < size e → kind_of (held nodes i) ≡ 1
    → Part 0 e i (event (code_of (held nodes i)))
node_event nodes e st i l k = stands_part (held nodes) 0 e i (code_of (held nodes i)) st (omega arith) (omega arith) (event_record _ k)
