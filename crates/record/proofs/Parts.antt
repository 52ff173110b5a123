-- The parts of a procedure: what its tables say of a part, and the parts of its children. Assumes nothing.
use mathlib.Core.Path.{◌≡◌, refl, sym, ap, subst}
use mathlib.Core.Bool.{false}
use Prim.Native.Nat.{ℕ, ◌+◌, ◌-◌, ◌≤◌, ◌<◌}
use native.Mathlib.Omega.{arith}
use lib.ListN.{get_or}
use Rattle.meaning.specs.Expr.{Expr}
use Rattle.meaning.specs.Node.{node}
use Rattle.meaning.proofs.Expressions.Parts.{root-size}
use Rattle.procedure.specs.Entry.{held, kind_of, left_of}
use Rattle.procedure.specs.Listing.{Listing, NullAt, Spans, TellsNulls}
use Rattle.procedure.specs.declared.Procedure.{Procedure}
use Rattle.procedure.specs.declared.bounds.Bounds.{Bounds}
use Rattle.procedure.proofs.Empties.{null_told, nulls_fewer}
use Rattle.procedure.proofs.Nodes.{listing_root, listing_some, one_lower, one_of, one_small}
use Rattle.procedure.proofs.Orders.{spans_below}
use Rattle.procedure.proofs.Standing.{at_repeat, at_pair}
use Rattle.procedure.specs.Opening.{BoundsAt}
use Rattle.record.specs.Walk.{PartAt}
use Rattle.record.proofs.Stays.{RepeatPart}

-- the whole is one
pub whole_part : {p : Procedure} {e : Expr} → Listing p.nodes p.count e → TellsNulls (held p.nodes) p.nulls p.count → PartAt p 0 (p.count - 1)
whole_part {p} {e} l told =
    let some = listing_some l in
    record {
      one_of = one_of l (p.count - 1) (omega arith);
      spans = (e, l.stands, listing_root l);
      tells_nulls = nulls_fewer _ _ (p.count - 1 + 1) p.count (omega arith) told;
    }

-- so is what stands at a lower node
lower_part : {p : Procedure} {s i : ℕ} (t j : ℕ) → j ≤ i → Spans (held p.nodes) t j → PartAt p s i → PartAt p t j
lower_part {p} {s} {i} t j h spans part =
    record {
      one_of = one_lower i j h part.one_of;
      spans = spans;
      tells_nulls = nulls_fewer _ _ (j + 1) (i + 1) (omega arith) part.tells_nulls;
    }

module _ {p : Procedure} {s i : ℕ} (part : PartAt p s i) where
  pub part_small : i < 512
  part_small = one_small i part.one_of

  pub part_begins : s ≤ i
  part_begins = spans_below _ s i part.spans

  pub part_null : NullAt (held p.nodes) i (get_or p.nulls i false)
  part_null = null_told _ _ (i + 1) i part.tells_nulls (omega arith)

-- ---- the children of a choice or a sequence

-- two parts stand before node i, and `left` is the node of the first
pub record Children (p : Procedure) (s i left : ℕ) : Type 0 where
  pub first : PartAt p s left
  pub second : PartAt p (left + 1) (i - 1)
  pub lower : left < i

pub children : {p : Procedure} {s i : ℕ} (kind left right : ℕ) → held p.nodes i ≡ node kind 0 left right 0 → 2 ≤ kind → kind < 4
    → PartAt p s i → Children p s i left
children {p} {s} {i} kind left right here k l part =
    at_pair (Children p s i left) (held p.nodes) s i kind left (sym (ap kind_of here)) (sym (ap left_of here)) k (omega arith)
    (λ a b q.
    record {
      first = lower_part s left (omega (arith, q.next, q.here)) (a, q.first, q.first_at) part;
      second = lower_part (left + 1) (i - 1) (omega arith)
          (subst (λ (t : ℕ). Spans (held p.nodes) t (i - 1)) q.next (b, q.second, q.second_at)) part;
      lower = omega (arith, q.next, q.here);
    })
    part.spans

-- ---- a repeat and its body

pub body : {p : Procedure} {s i : ℕ} {b : Bounds} → BoundsAt p i b → PartAt p s i → PartAt p s (i - 1) × (1 ≤ i)
body {p} {s} {i} told part =
    at_repeat (held p.nodes) s i (kind_of (held p.nodes i)) refl (λ e. PartAt p s (i - 1) × (1 ≤ i)) told.repeats
    (λ b q h r. (lower_part s (i - 1) (omega arith) (b, q, h) part, omega (arith, root-size s b))) part.spans.0 part.spans.1 part.spans.2

pub repeat_part : {p : Procedure} {s i : ℕ} {b : Bounds} → BoundsAt p i b → PartAt p s i → RepeatPart (held p.nodes) s i
repeat_part told part =
    record {
      first = part_begins part;
      some = (body told part).1;
      small = part_small part;
      repeats = told.repeats;
    }
