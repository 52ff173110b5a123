-- From what is found in the nodes to what the meaning says of the file. Assumes nothing.
use mathlib.Core.Path.{◌≡◌, sym, ap, subst, ◌∙◌}
use mathlib.Core.Bool.{Bool}
use mathlib.Core.List.{List}
use Prim.Native.Nat.{ℕ, suc, ◌-◌, ◌≤◌, ◌<◌}
use native.Mathlib.Omega.{arith}
use Rattle.std.proofs.Common.{Err, Ok}
use Rattle.meaning.specs.Expr.{Expr}
use Rattle.meaning.specs.Node.{Node, InOrder, InTable, repeats_below}
use Rattle.meaning.specs.File.{Framed, Refused, TableBelow, WellFormed, by_order, by_record, by_repeats, by_root, count, node_at}
use Rattle.meaning.specs.declared.Refusal.{Refusal}
use Rattle.meaning.specs.declared.Refusal.TheVariants.{Repeats}
use Rattle.meaning.proofs.Expressions.Parts.{root-size}
use Rattle.meaning.proofs.File.Files.{stands_same}
use Rattle.procedure.specs.Entry.{Nodes, Tied, held}
use Rattle.procedure.specs.Opening.{Filled}
use Rattle.procedure.specs.Listing.{Spans, TellsNulls, TellsRepeats, TellsStarts}
use Rattle.procedure.specs.Order.{FindsStarts, OrderedBelow, broken, late, whole}
use Rattle.procedure.specs.Records.{ReadsNodes, all, off}
use Rattle.procedure.specs.Repeats.{ListsRepeats, listed, over}
use Rattle.procedure.proofs.Counting.{same_count}
use Rattle.procedure.proofs.Orders.{starts_ordered}

-- what is in order among some nodes is so among nodes that are equal up to it
order_same : (g h : ℕ → Node) (n : ℕ) → ((i : ℕ) → i < n → g i ≡ h i) → (i : ℕ) → i < n → InOrder g i → InOrder h i
order_same g h n same i l o = (o.0, o.1, stands_same g h n o.0 o.1 same (omega (arith, o.3)) o.2, o.3)

-- where the nodes are one part, each is in order
pub found_ordered : {g : ℕ → Node} {starts : List ℕ} {n : ℕ} → FindsStarts g starts n (Ok tt) → OrderedBelow g n
found_ordered {g} {starts} {n} (whole part told) = starts_ordered g starts n told

module _ (f : List ℕ) (nodes : Nodes) (n : ℕ) (framed : Framed f) (here : n ≡ count f) where
  -- the test 4 refuses
  pub record_refused : {r : Refusal} → ReadsNodes f nodes n (Err r) → Refused f r
  record_refused (off i l below bad) = by_record i framed (omega arith) below bad

  in_file : Tied f nodes n → (i : ℕ) → i < n → InOrder (held nodes) i → InOrder (node_at f) i
  in_file = order_same (held nodes) (node_at f) n

  in_array : Tied f nodes n → (i : ℕ) → i < n → InOrder (node_at f) i → InOrder (held nodes) i
  in_array tied = order_same (node_at f) (held nodes) n (λ j l. sym (tied j l))

  -- the test 5 refuses
  pub order_refused : {starts : List ℕ} {r : Refusal} → ReadsNodes f nodes n (Ok tt) → FindsStarts (held nodes) starts n (Err r) → Refused f r
  order_refused (all tied table) (broken i l below bad) =
      by_order i framed (subst (TableBelow f) here table) (omega arith) (λ j k. in_file tied j (omega arith) (below j k)) (λ o. bad (in_array tied i l o))
  order_refused (all tied table) (late i e below bad) =
      by_root i framed (subst (TableBelow f) here table) (λ j k. in_file tied j (omega arith) (below j (omega arith)))
      (λ d lists. bad
      (let r = root-size 0 d in
      (d, stands_same (node_at f) (held nodes) n 0 d (λ j k. sym (tied j k)) (omega (arith, lists.1)) lists.0, omega (arith, lists.1))))
      (e ∙ here)

  -- none of 1 to 5 applies
  module _ (tied : Tied f nodes n) (table : TableBelow f n) (part : Spans (held nodes) 0 (n - 1)) where
    expr : Expr
    expr = part.0

    formed : WellFormed f expr
    unfolding expr
    formed =
        let r = root-size 0 expr in
        let last = part.2 in
        let first = framed.2.0 in
        record {
          framed = framed;
          table = subst (TableBelow f) here table;
          lists = (stands_same (held nodes) (node_at f) n 0 expr tied (omega arith) part.1, omega arith);
        }

    too_many : (i : ℕ) → i < n → repeats_below (held nodes) i ≡ 32 → repeats_below (held nodes) (suc i) ≡ 33 → Refused f (Repeats i)
    too_many i l most more =
        let same = same_count (held nodes) (node_at f) n tied in
        by_repeats expr i formed (omega (arith, l, here)) (sym (same i (omega (arith, l))) ∙ most) (sym (same (suc i) l) ∙ more)

    has : (starts : List ℕ) (nulls : List Bool) (list : List ℕ) (r : ℕ) → TellsStarts (held nodes) starts n → TellsNulls (held nodes) nulls n
        → TellsRepeats (held nodes) list n r → r ≤ 32 → Filled f nodes starts nulls list n r
    unfolding expr
    has starts nulls list r begun empties ranked few =
        let same = same_count (held nodes) (node_at f) n tied n (omega arith) ∙ ap (repeats_below (node_at f)) here in
        let size = root-size 0 expr in
        let last = part.2 in
        let most = framed.2.1 in
        let first = framed.2.0 in
        record {
          expr = expr;
          holds = record { formed = formed; few = omega (arith, ranked.counted) };
          tables = record {
            listing = record {
              stands = part.1;
              sized = omega arith;
              few = omega arith;
              table = λ j l. subst InTable (sym (tied j l)) (table j l);
            };
            begun = begun;
            empties = empties;
            ranked = ranked;
            few_repeats = few;
          };
        }

  -- the test 6 refuses
  pub repeats_refused : {starts list : List ℕ} {nulls : List Bool} {i : ℕ} → ReadsNodes f nodes n (Ok tt) → FindsStarts (held nodes) starts n (Ok tt)
      → ListsRepeats (held nodes) nulls list n (Err i) → Refused f (Repeats i)
  repeats_refused (all tied table) (whole part told) (over i l most more) = too_many tied table part i l most more

  -- none of them does
  pub filled : {starts list : List ℕ} {nulls : List Bool} {r : ℕ} → ReadsNodes f nodes n (Ok tt) → FindsStarts (held nodes) starts n (Ok tt)
      → ListsRepeats (held nodes) nulls list n (Ok r) → Filled f nodes starts nulls list n r
  filled {starts} {list} {nulls} (all tied table) (whole part told) (listed r empties ranked few) =
      has tied table part starts nulls list r told empties ranked few
