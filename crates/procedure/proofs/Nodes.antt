-- What whoever stands above the file may use of a listing. Assumes nothing.
use mathlib.Core.Path.{◌≡◌, refl}
use Prim.Native.Nat.{ℕ, ◌-◌, ◌≤◌, ◌<◌}
use native.Mathlib.Omega.{arith}
use Rattle.meaning.specs.Expr.{Expr, root}
use Rattle.meaning.specs.Codes.{most_code}
use Rattle.meaning.specs.Node.{InOrder, InTable, Node, choice_line, empty_line, event_line, repeat_line, sequence_line}
use Rattle.meaning.proofs.Expressions.Parts.{root-size}
use Rattle.procedure.specs.Entry.{Nodes, code_of, held, kind_of, upper_of}
use Rattle.procedure.specs.Listing.{Listing, OneOf}
use Rattle.procedure.proofs.Standing.{inner_order}

-- ---- what every line of the table says

pub kind_kept : {n : Node} → InTable n → kind_of n ≤ 4
kind_kept empty_line = omega arith
kind_kept (event_line c h) = omega arith
kind_kept (choice_line l r) = omega arith
kind_kept (sequence_line l r) = omega arith
kind_kept (repeat_line b lower upper h u l) = omega arith

pub code_kept : {n : Node} → InTable n → ¬ (kind_of n ≡ 1) → code_of n ≡ 0
code_kept empty_line other = refl
code_kept (event_line c h) other = absurd (other refl)
code_kept (choice_line l r) other = refl
code_kept (sequence_line l r) other = refl
code_kept (repeat_line b lower upper h u l) other = refl

pub upper_kept : {n : Node} → InTable n → ¬ (kind_of n ≡ 4) → upper_of n ≡ 0
upper_kept empty_line other = refl
upper_kept (event_line c h) other = refl
upper_kept (choice_line l r) other = refl
upper_kept (sequence_line l r) other = refl
upper_kept (repeat_line b lower upper h u l) other = absurd (other refl)

-- an event node's code is one of the table's
pub event_kept : (n : Node) → InTable n → kind_of n ≡ 1 → code_of n ≤ most_code
event_kept n empty_line e = absurd (omega arith)
event_kept n (event_line c h) e = h
event_kept n (choice_line l r) e = absurd (omega arith)
event_kept n (sequence_line l r) e = absurd (omega arith)
event_kept n (repeat_line b lower upper h u l) e = absurd (omega arith)

-- ---- a listing

-- every node of it is in order
pub listing_order : {nodes : Nodes} {n : ℕ} {e : Expr} → Listing nodes n e → (i : ℕ) → i < n → InOrder (held nodes) i
listing_order {nodes} {n} {e} l i h = inner_order (held nodes) 0 e l.stands i (omega arith) (omega (arith, l.sized))

-- its last node is the root
pub listing_root : {nodes : Nodes} {n : ℕ} {e : Expr} → Listing nodes n e → root 0 e ≡ n - 1
listing_root {nodes} {n} {e} l = omega (arith, root-size 0 e, l.sized)

pub listing_some : {nodes : Nodes} {n : ℕ} {e : Expr} → Listing nodes n e → 1 ≤ n
listing_some {nodes} {n} {e} l = omega (arith, root-size 0 e, l.sized)

-- ---- one of its nodes

pub one_of : {nodes : Nodes} {n : ℕ} {e : Expr} → Listing nodes n e → (i : ℕ) → i < n → OneOf nodes i
one_of {nodes} {n} {e} l i h = (n, e, l, h)

pub one_small : {nodes : Nodes} (i : ℕ) → OneOf nodes i → i < 512
one_small i o = omega (arith, o.2.few, o.3)

pub one_ordered : {nodes : Nodes} (i : ℕ) → OneOf nodes i → InOrder (held nodes) i
one_ordered i o = listing_order o.2 i o.3

pub one_in_table : {nodes : Nodes} (i : ℕ) → OneOf nodes i → InTable (held nodes i)
one_in_table i o = o.2.table i o.3

-- so is every lower one
pub one_lower : {nodes : Nodes} (i j : ℕ) → j ≤ i → OneOf nodes i → OneOf nodes j
one_lower i j h o = (o.0, o.1, o.2, omega (arith, o.3))
