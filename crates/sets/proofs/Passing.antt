-- The pass upward: what the tables tell and what was found, at the nodes below i and in one node more. Assumes nothing.
use mathlib.Core.Logic.{inl, inr, ⊎_elim}
use mathlib.Core.List.{List}
use mathlib.Core.Path.{◌≡◌, refl, sym, subst}
use Prim.Native.Nat.{ℕ, ◌+◌, ◌<◌}
use native.Mathlib.Decide.{dec_lt}
use native.Mathlib.Omega.{arith}
use lib.ListN.{length, set}
use Rattle.std.specs.Prelude.{Option, Some, None}
use Rattle.std.specs.Option.{option_or}
use Rattle.meaning.specs.Conflict.{Conflict, ConflictAt}
use Rattle.meaning.specs.Expr.{Expr, Part}
use Rattle.meaning.specs.Sets.{First, After}
use Rattle.meaning.proofs.Expressions.Parts.{part_unique, part_within}
use Rattle.codes.specs.Codes.{Codes}
use Rattle.procedure.specs.Entry.{Nodes, held}
use Rattle.procedure.specs.Listing.{Listing}
use Rattle.procedure.proofs.Standing.{inner_part}
use Rattle.sets.specs.Lowest.{Clash, Conflicts, Lowest, OwnAt}
use Rattle.sets.specs.Sets.{ClashAt, WorkedAt}
use Rattle.sets.specs.Tables.{SetAt, TellsSets}
use Rattle.sets.specs.declared.joins.NodeSets.{NodeSets}
use Rattle.sets.proofs.Tables.{sets_more, sets_none}
use Rattle.sets.proofs.Lowest.{Ahead, Either, Same, lowest_either, lowest_same}

-- ---- the conflicts at the nodes below i, and at node i

abbrev pub BelowNode : ℕ → Conflicts → Conflicts
BelowNode i R j k c = (j < i) × R j k c

abbrev AtNode : ℕ → Conflicts → Conflicts
AtNode i R j k c = (j ≡ i) × R j k c

below_ahead : (i : ℕ) (R : Conflicts) → Ahead (BelowNode i R) (AtNode i R)
below_ahead i R j k c m l d x y = inl (let h = x.0 in let g = y.0 in omega arith)

below_next : (i : ℕ) (R : Conflicts) → Same (Either (BelowNode i R) (AtNode i R)) (BelowNode (i + 1) R)
below_next i R j k c = (⊎_elim (λ x. (omega (arith, x.0), x.1)) (λ x. (omega (arith, x.0), x.1)), λ x. side x (dec_lt j i))
  where
    side : BelowNode (i + 1) R j k c → Dec (j < i) → Either (BelowNode i R) (AtNode i R) j k c
    side x (yes l) = inl (l, x.1)
    side x (no l) = inr (omega (arith, x.0), x.1)

module _ {nodes : Nodes} {n : ℕ} (e : Expr) (listing : Listing nodes n e) where
  module _ (i : ℕ) (inside : i < n) (x : Option Clash) (own : ClashAt (held nodes) i x) where
    -- the node's own conflicts are those of the expression there
    own_same : (p : Expr) → Part 0 e i p → Same (OwnAt i p) (AtNode i (ConflictAt 0 e))
    own_same p w j k c = (
      λ y. (y.0, (p, subst (λ (m : ℕ). Part 0 e m p) (sym y.0) w, y.1)),
      λ y. (y.0, subst (λ (q : Expr). Conflict q k c) (part_unique 0 e i y.1.0 p (subst (λ (m : ℕ). Part 0 e m y.1.0) y.0 y.1.1) w) y.1.2),
    )

    own_lowest : Lowest (AtNode i (ConflictAt 0 e)) x
    unfolding ClashAt
    own_lowest =
        let p = inner_part (held nodes) 0 e listing.stands i (omega arith) (omega (arith, listing.sized)) in
        lowest_same (OwnAt i p.1) _ (own_same p.1 p.2) x (own p.0 p.1 p.3 p.4)

    -- in one node more: what was found before, or else the node's own
    found_more : (before : Option Clash) → Lowest (BelowNode i (ConflictAt 0 e)) before → Lowest (BelowNode (i + 1) (ConflictAt 0 e)) (option_or before x)
    found_more before found =
        lowest_same _ _ (below_next i (ConflictAt 0 e)) (option_or before x)
        (lowest_either _ _ (below_ahead i (ConflictAt 0 e)) before x found own_lowest)

-- ---- the pass, of whatever expression the n nodes list

-- the tables tell of the nodes below i, and what was found is the lowest conflict of these
pub record Passed (nodes : Nodes) (n : ℕ) (firsts afters : List Codes) (found : Option Clash) (i : ℕ) : Type 0 where
  pub firsts_told : TellsSets First (held nodes) firsts i
  pub afters_told : TellsSets After (held nodes) afters i
  pub lowest : (e : Expr) → Listing nodes n e → Lowest (BelowNode i (ConflictAt 0 e)) found

pub passed_none : (nodes : Nodes) (n : ℕ) (firsts afters : List Codes) → Passed nodes n firsts afters None 0
passed_none nodes n firsts afters = record {
  firsts_told = sets_none First (held nodes) firsts;
  afters_told = sets_none After (held nodes) afters;
  lowest = λ e l i k c x. absurd (omega (arith, x.0));
}

pub passed_more : {nodes : Nodes} {n : ℕ} {firsts afters : List Codes} {before found : Option Clash} {i : ℕ} (x : NodeSets) (own : Option Clash)
    → Passed nodes n firsts afters before i → i < n → i < length firsts → i < length afters → WorkedAt (held nodes) i x → ClashAt (held nodes) i own
    → found ≡ option_or before own → Passed nodes n (set firsts i x.first) (set afters i x.after) found (i + 1)
unfolding WorkedAt SetAt
passed_more {nodes} {n} {firsts} {afters} {before} {found} {i} x own p inside f a worked clash o = record {
  firsts_told = sets_more First (held nodes) firsts i x.first f p.firsts_told (λ s e st at. (worked s e st at).firsts);
  afters_told = sets_more After (held nodes) afters i x.after a p.afters_told (λ s e st at. (worked s e st at).afters);
  lowest = λ e l. rw o (found_more e l i inside own clash before (p.lowest e l));
}

-- a node without a conflict leaves what was found
pub or_none : (before : Option Clash) → before ≡ option_or before None
or_none None = refl
or_none (Some x) = refl

pub passed_all : {nodes : Nodes} {n : ℕ} {firsts afters : List Codes} {found : Option Clash} {i : ℕ} → Passed nodes n firsts afters found i → i ≡ n
    → (e : Expr) → Listing nodes n e → Lowest (ConflictAt 0 e) found
passed_all {found = found} p all e listing =
    lowest_same _ (ConflictAt 0 e) (λ j k c. (λ x. x.1, λ x. (omega (arith, part_within 0 e j x.0 x.1, listing.sized), x))) found (p.lowest e listing)
