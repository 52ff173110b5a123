-- The nodes of a file, read one by one. Assumes nothing.
use mathlib.Core.Path.{◌≡◌, ap, subst, ◌∙◌}
use mathlib.Core.List.{List}
use Prim.Native.Nat.{ℕ, ◌+◌, ◌-◌, ◌*◌, ◌<◌}
use native.Mathlib.Omega.{arith}
use borrow.Author.Count.{below_more}
use lib.ListN.{length, set}
use lib.Seq.{get_or-set_same, get_or-set_other}
use Rattle.std.proofs.Common.{Err, None, Some}
use Rattle.meaning.specs.Node.{InTable}
use Rattle.meaning.specs.File.{TableBelow, count, record_at, span}
use Rattle.meaning.specs.declared.Refusal.TheVariants.{Record}
use Rattle.procedure.specs.declared.node.Node.TheVariants.{Empty}
use Rattle.procedure.specs.Entry.{Entry, Nodes, Tied, record_of}
use Rattle.procedure.specs.Records.{NodeOf, ReadsNodes, off}

-- where record i stands
place : (f : List ℕ) (n i at : ℕ) → n ≡ count f → at ≡ length f - 12 - 8 * n + 8 * i → at ≡ length f - span (count f) + 8 * i
place f n i at e h = omega arith

module _ (f : List ℕ) (nodes : Nodes) (n i at : ℕ) (here : n ≡ count f) (stands : at ≡ length f - 12 - 8 * n + 8 * i) where
  pub tied_more : (x : Entry) → i < length nodes → Tied f nodes i → NodeOf (record_at f at) (Some x) → Tied f (set nodes i x) (i + 1)
  tied_more x h tied m =
      below_more _ i
      (λ k l. ap record_of (get_or-set_other nodes i k x Empty (omega arith)) ∙ tied k l)
      (ap record_of (get_or-set_same nodes i x Empty h) ∙ m.0 ∙ ap (record_at f) (place f n i at here stands))

  pub table_more : (x : Entry) → TableBelow f i → NodeOf (record_at f at) (Some x) → TableBelow f (i + 1)
  table_more x table m = below_more _ i table (subst (λ (k : ℕ). InTable (record_at f k)) (place f n i at here stands) m.1)

  pub record_off : i < n → TableBelow f i → NodeOf (record_at f at) None → ReadsNodes f nodes n (Err (Record i))
  record_off l table m = off i l table (subst (λ (k : ℕ). ¬ InTable (record_at f k)) (place f n i at here stands) m)
