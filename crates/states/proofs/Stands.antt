-- A run can stand at a node with counters exactly if the tests of the code pass. Assumes nothing.
use mathlib.Core.Path.{◌≡◌, refl, sym, ap, subst, ◌∙◌}
use mathlib.Core.Bool.{Bool, true, false}
use mathlib.Core.List.{List}
use Prim.Native.Nat.{ℕ, ◌+◌, ◌≤◌, ◌<◌}
use native.Mathlib.Omega.{arith}
use lib.ListN.{length, get_or}
use Rattle.meaning.specs.Expr.{Expr}
use Rattle.meaning.specs.Theory.Places.{Place, node_of, Sound}
use Rattle.meaning.specs.Theory.Spots.{Spot, start, behind, Safe}
use Rattle.meaning.specs.Theory.Counts.{Marked, repeats}
use Rattle.meaning.proofs.Places.Marks.{node_below}
use Rattle.meaning.proofs.Places.Directly.{place_part}
use Rattle.meaning.proofs.File.EventNodes.{part_stands}
use Rattle.procedure.specs.declared.node.Node.TheVariants as entry
use Rattle.procedure.specs.Entry.{Entry, Nodes, held, record_of, kind_of}
use Rattle.procedure.specs.Listing.{Tables}
use Rattle.procedure.specs.Tests.{Decides}
use Rattle.procedure.proofs.Nodes.{listing_order}
use Rattle.procedure.proofs.Standing.{last_order}
use Rattle.states.specs.Standing.{AtSpot, CanStand, FitsAt, AllFit, ClearFrom}
use Rattle.states.proofs.Readiness.{tables_repeats}
use Rattle.states.proofs.Listed.{listed_all}
use Rattle.states.proofs.RightCounts.{inside, passes}

-- ---- behind a place

abbrev Behind : Expr → ℕ → List ℕ → Type 0
Behind e p counts = (q : Place e) × Sound e q × (p ≡ node_of 0 e q) × Marked counts e q

spot_behind : (e : Expr) (p : ℕ) (counts : List ℕ) (k : Spot e) → Safe e k → AtSpot e k (p + 1) counts → Behind e p counts
spot_behind e p counts start s t = absurd (omega arith)
spot_behind e p counts (behind q) s t = (q, s, omega arith, t.1)

-- ---- the tests of the code

-- what is no event is of another kind
pub other_kind : (x : Entry) → ((c : ℕ) → ¬ (x ≡ entry.Event c)) → ¬ (kind_of (record_of x) ≡ 1)
other_kind entry.Empty f = λ h. omega arith
other_kind (entry.Event c) f = λ h. f c refl
other_kind (entry.Choice left right) f = λ h. omega arith
other_kind (entry.Sequence left right) f = λ h. omega arith
other_kind (entry.Repeat body lower upper) f = λ h. omega arith

module _ {nodes : Nodes} {starts : List ℕ} {nulls : List Bool} {list : List ℕ} {n r : ℕ} {e : Expr} (w : Tables nodes starts nulls list n r e) where
  -- a repeat that is listed has a node below it
  pub listed_inner : (k : ℕ) → k < r → (1 ≤ get_or list k 0) × (get_or list k 0 < 512)
  listed_inner k l =
      let at = w.ranked.each k l in
      let y = get_or list k 0 in (
        (last_order (held nodes) y 4 (sym at.repeats) (omega arith) (listing_order w.listing y at.below)).1,
        omega (arith, at.below, w.listing.few),
      )

  module _ (counts : List ℕ) (p : ℕ) where
    pub not_past : n ≤ p → ¬ CanStand e (p + 1) counts
    not_past l t =
        let q = spot_behind e p counts t.0 t.1 t.2 in
        omega (arith, q.2, node_below 0 e q.0, w.listing.sized)

    pub not_event : ¬ (kind_of (held nodes p) ≡ 1) → ¬ CanStand e (p + 1) counts
    not_event f t =
        let q = spot_behind e p counts t.0 t.1 t.2 in
        f
        (ap (λ (y : ℕ). kind_of (held nodes y)) q.2
        ∙ ap kind_of (part_stands (held nodes) 0 e _ _ w.listing.stands (place_part 0 e q.0)))

    pub not_right : ¬ AllFit nodes starts nulls list counts p r → ¬ CanStand e (p + 1) counts
    not_right f t =
        let q = spot_behind e p counts t.0 t.1 t.2 in
        let all =
        passes nodes starts nulls counts n p w.begun w.empties 0 0 e w.listing.stands q.0 q.1 q.2 q.3.holds
        (omega (arith, w.listing.sized)) refl in
        f
        (λ k l.
        let at = w.ranked.each k l in
        let y = get_or list k 0 in
        subst (λ (j : ℕ). FitsAt nodes starts nulls y p (get_or counts j 0)) at.rank
        (all y (omega arith) (omega (arith, at.below, w.listing.sized)) at.repeats))

    pub right_decided : (a : Bool) → length counts ≡ 32 → p < n → kind_of (held nodes p) ≡ 1
        → AllFit nodes starts nulls list counts p r → Decides (ClearFrom counts r) a → Decides (CanStand e (p + 1) counts) a
    right_decided true long l kind f z =
        let sized = w.listing.sized in
        let all = listed_all (held nodes) list n r (λ y k. FitsAt nodes starts nulls y p (get_or counts k 0)) w.ranked f in
        let t =
        inside nodes starts nulls counts n p w.begun w.empties 0 0 e w.listing.stands kind (omega arith) refl (omega arith)
        (omega arith) (λ y a b. all y (omega arith)) in
        let past : ClearFrom counts (repeats e) = λ j g. z j (omega (arith, tables_repeats w)) in
        (behind t.0, t.1, (ap (λ (i : ℕ). i + 1) (sym t.2), record { holds = t.3; past = past; long = long }))
    right_decided false long l kind f z = λ t.
        let q = spot_behind e p counts t.0 t.1 t.2 in
        z (λ j g. q.3.past j (omega (arith, tables_repeats w)))
