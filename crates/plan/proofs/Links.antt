-- What a link is, where the children of a node stand, and how the pass goes on. Assumes nothing.
use mathlib.Core.Path.{◌≡◌, sym, ap, ◌∙◌}
use mathlib.Core.HLevel.{is_prop→PathP}
use mathlib.Core.Bool.{Bool}
use mathlib.Core.List.{List}
use Prim.Native.Nat.{ℕ, suc, ◌-◌, ◌≤◌, ◌<◌}
use native.Mathlib.Bridge.{le_prop}
use native.Mathlib.Nat.{mod-eq_of_lt}
use native.Mathlib.Omega.{arith}
use lib.ListN.{get_or, length, set}
use Rattle.std.proofs.lemmas.List.{get_or_default}
use Rattle.meaning.specs.Node.{is_repeat, repeats_below}
use Rattle.meaning.proofs.File.Ranks.{more_below}
use Rattle.procedure.specs.declared.node.Node.TheVariants as entry
use Rattle.procedure.specs.Entry.{Entry, Nodes, held, kind_of, left_of, record_of}
use Rattle.procedure.specs.Listing.{OneOf}
use Rattle.procedure.proofs.Nodes.{one_ordered, one_small}
use Rattle.procedure.proofs.Standing.{last_order, left_lower}
use Rattle.plan.specs.Link.{Link, Links, above_in, begins_in, ranked_in, told_in, untold}
use Rattle.plan.specs.Filling.{down, link_with, rank_to, tell}

-- ---- a link is its numbers

same_link : (x y : Link) → x.above ≡ y.above → x.begins ≡ y.begins → x.rank ≡ y.rank → x ≡ y
same_link x y a b r = λ i. record {
  above = a i;
  begins = b i;
  rank = r i;
  above_small = is_prop→PathP (λ j. a j < 1024) (λ j. le_prop) x.above_small y.above_small i;
  begins_small = is_prop→PathP (λ j. b j < 1024) (λ j. le_prop) x.begins_small y.begins_small i;
  rank_small = is_prop→PathP (λ j. r j < 64) (λ j. le_prop) x.rank_small y.rank_small i;
}

-- a link with the numbers told is put at node c
pub told_at : (p : Links) (c : ℕ) (x : Link) → {above begins : ℕ} → above < 1024 → begins < 1024
    → x.above ≡ above → x.begins ≡ begins → x.rank ≡ 0 → set p c x ≡ tell p c above begins
told_at p c x {above} {begins} a b ea eb er =
    ap (set p c) (same_link x (told_in above begins) (ea ∙ sym (mod-eq_of_lt a)) (eb ∙ sym (mod-eq_of_lt b)) er)

-- the link of node i, whose rank alone is another, is put back
pub ranked_at : (p : Links) (i : ℕ) (x y : Link) → {rank : ℕ} → i < length p → rank < 64
    → x.above ≡ above_in (get_or p i y) → x.begins ≡ begins_in (get_or p i y) → x.rank ≡ rank → set p i x ≡ rank_to p i rank
ranked_at p i x y {rank} l k ea eb er =
    let same = get_or_default p i y untold l in
    ap (set p i)
    (same_link x (ranked_in (get_or p i untold) rank) (ea ∙ ap above_in same) (eb ∙ ap begins_in same) (er ∙ sym (mod-eq_of_lt k)))

-- ---- the children of a node

-- one of the nodes stands before a node that is no leaf
some_before : {nodes : Nodes} (i k : ℕ) → OneOf nodes i → k ≡ kind_of (held nodes i) → 2 ≤ k → 1 ≤ i
some_before {nodes} i k o e some = (last_order (held nodes) i k e some (one_ordered i o)).1

-- and the left of two children stands below it
some_left : {nodes : Nodes} (i k left : ℕ) → OneOf nodes i → k ≡ kind_of (held nodes i) → left ≡ left_of (held nodes i) → 2 ≤ k → k < 4 → left < 512
some_left {nodes} i k left o e f some pair =
    omega (arith, left_lower (held nodes) i k left e f some (λ d. omega arith) (one_ordered i o), one_small i o)

module _ {nodes : Nodes} {i : ℕ} (one : OneOf nodes i) where
  pub before_choice : {left right : ℕ} → get_or nodes i entry.Empty ≡ entry.Choice left right → 1 ≤ i
  before_choice e = some_before i 2 one (ap (λ (x : Entry). kind_of (record_of x)) (sym e)) (omega arith)

  pub before_sequence : {left right : ℕ} → get_or nodes i entry.Empty ≡ entry.Sequence left right → 1 ≤ i
  before_sequence e = some_before i 3 one (ap (λ (x : Entry). kind_of (record_of x)) (sym e)) (omega arith)

  pub before_repeat : {body lower upper : ℕ} → get_or nodes i entry.Empty ≡ entry.Repeat body lower upper → 1 ≤ i
  before_repeat e = some_before i 4 one (ap (λ (x : Entry). kind_of (record_of x)) (sym e)) (omega arith)

  pub left_choice : {left right : ℕ} → get_or nodes i entry.Empty ≡ entry.Choice left right → left < 512
  left_choice {left} e =
      some_left i 2 left one (ap (λ (x : Entry). kind_of (record_of x)) (sym e)) (ap (λ (x : Entry). left_of (record_of x)) (sym e)) (omega arith) (omega arith)

  pub left_sequence : {left right : ℕ} → get_or nodes i entry.Empty ≡ entry.Sequence left right → left < 512
  left_sequence {left} e =
      some_left i 3 left one (ap (λ (x : Entry). kind_of (record_of x)) (sym e)) (ap (λ (x : Entry). left_of (record_of x)) (sym e)) (omega arith) (omega arith)

-- ---- the downward pass, node by node

module _ (nodes : Nodes) (i j : ℕ) (next : i ≡ suc j) where
  -- the repeats below a node are those below the next, but for itself
  pub count_down : (rank one : ℕ) → rank ≡ repeats_below (held nodes) i → one ≡ is_repeat (held nodes j) → rank - one ≡ repeats_below (held nodes) j
  count_down rank one e f = omega (arith, more_below (held nodes) j i next)

  -- the visit of one node is one step of the pass
  pub step_down : (nulls : List Bool) (p d : Links) (rank : ℕ) → rank ≡ repeats_below (held nodes) j
      → d ≡ link_with (held nodes j) nulls (rank_to p j rank) j → down nodes nulls d j ≡ down nodes nulls p i
  step_down nulls p d rank e f =
      ap (λ (x : Links). down nodes nulls x j) (f ∙ ap (λ (k : ℕ). link_with (held nodes j) nulls (rank_to p j k) j) e) ∙ sym (ap (down nodes nulls p) next)
