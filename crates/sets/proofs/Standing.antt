-- What the tables tell of the children of a node, and what is worked out of it from them. Assumes nothing.
use mathlib.Core.Bool.{Bool}
use mathlib.Core.List.{List}
use mathlib.Core.Path.{◌≡◌, refl, sym, ap, subst₂, ◌∙◌}
use Prim.Native.Nat.{ℕ, ◌+◌, ◌-◌, ◌≤◌, ◌<◌}
use native.Mathlib.Omega.{arith}
use lib.ListN.{get_or}
use Rattle.std.specs.Prelude.{Option, None}
use Rattle.codes.specs.Codes.{Codes}
use Rattle.meaning.specs.Expr.{Expr, choice, sequence, repeat, root, size}
use Rattle.meaning.specs.Node.{Stands, node, bound}
use Rattle.meaning.specs.Sets.{First, After}
use Rattle.procedure.specs.Entry.{Entry, Nodes, held, record_of, kind_of, left_of, lower_of, upper_of}
use Rattle.procedure.specs.declared.node.Node.TheVariants as entry
use Rattle.procedure.specs.Listing.{NullAt, OneOf, TellsNulls}
use Rattle.procedure.proofs.Nodes.{one_ordered, one_small}
use Rattle.procedure.proofs.Standing.{Pair, at_leaf, at_choice, at_sequence, at_repeat, last_order, left_lower}
use Rattle.sets.specs.Lowest.{Clash, Lowest, OwnAt}
use Rattle.sets.specs.Sets.{ClashAt, Clashes, ClashesOver, PartOf, WorkedOut, WorkedAt, OfLeaf, Joins, OverBody, ReadAt}
use Rattle.sets.specs.Tables.{TellsSets}
use Rattle.sets.specs.declared.joins.NodeSets.{NodeSets}
use Rattle.sets.specs.declared.joins.PartSets.{PartSets}
use Rattle.sets.proofs.Tables.{set_of_part}

-- the children of a node stand below it
module _ {nodes : Nodes} (i : ℕ) (one : OneOf nodes i) where
  -- of two children the second stands just before the node
  below_pair : (k left right : ℕ) → held nodes i ≡ node k 0 left right 0 → 2 ≤ k → k ≤ 3 → (left < i) × (1 ≤ i) × (i < 512)
  below_pair k left right e l m =
      let told : k ≡ kind_of (held nodes i) = sym (ap kind_of e) in
      let o = one_ordered i one in (
        left_lower (held nodes) i k left told (sym (ap left_of e)) l (λ h. absurd (omega arith)) o,
        (last_order (held nodes) i k told l o).1,
        one_small i one,
      )

  pub below_choice : {left right : ℕ} → get_or nodes i entry.Empty ≡ entry.Choice left right → (left < i) × (1 ≤ i) × (i < 512)
  below_choice {left} {right} e = below_pair 2 left right (ap record_of e) (omega arith) (omega arith)

  pub below_sequence : {left right : ℕ} → get_or nodes i entry.Empty ≡ entry.Sequence left right → (left < i) × (1 ≤ i) × (i < 512)
  below_sequence {left} {right} e = below_pair 3 left right (ap record_of e) (omega arith) (omega arith)

  pub below_repeat : {body lower most : ℕ} → get_or nodes i entry.Empty ≡ entry.Repeat body lower most → (1 ≤ i) × (i < 512)
  below_repeat e =
      ((last_order (held nodes) i 4 (sym (ap (λ (x : Entry). kind_of (record_of x)) e)) (omega arith) (one_ordered i one)).1, one_small i one)

-- what is so of every pair or repeat whose parts are known is so of the part at node i
module _ (nodes : Nodes) (i : ℕ) (nulls : List Bool) (firsts afters : List Codes) (one : OneOf nodes i)
    (empties : TellsNulls (held nodes) nulls i) (begun : TellsSets First (held nodes) firsts i) (ended : TellsSets After (held nodes) afters i) where
  -- a part below node i is as the tables tell
  part_told : (j s : ℕ) (e : Expr) (p : PartSets) → j < i → Stands (held nodes) s e → root s e ≡ j → ReadAt nulls firsts afters j p → PartOf e p
  unfolding TellsNulls NullAt
  part_told j s e p l st at r = record {
    empties = r.null ∙ empties j l s e st at;
    firsts = rw r.first (set_of_part First (held nodes) firsts i j s e begun l st at);
    afters = rw r.after (set_of_part After (held nodes) afters i j s e ended l st at);
  }

  -- what is so of a pair whose parts are known is so of the pair at node i
  of_pair : (left : ℕ) (l r : PartSets) → 1 ≤ i → ReadAt nulls firsts afters left l → ReadAt nulls firsts afters (i - 1) r
      → (s : ℕ) (a b : Expr) → Pair (held nodes) s i left a b → PartOf a l × PartOf b r
  of_pair left l r some rl rr s a b t = (
    part_told left s a l (omega (arith, t.next, t.here)) t.first t.first_at rl,
    part_told (i - 1) (s + size a) b r (omega arith) t.second t.second_at rr,
  )

  module _ (W : Expr → Type 0) where
    choice_holds : (left right : ℕ) (l r : PartSets) → get_or nodes i entry.Empty ≡ entry.Choice left right
        → ReadAt nulls firsts afters left l → ReadAt nulls firsts afters (i - 1) r → ((a b : Expr) → PartOf a l → PartOf b r → W (choice a b))
        → (s : ℕ) (e : Expr) → Stands (held nodes) s e → root s e ≡ i → W e
    choice_holds left right l r e rl rr j =
        let below = below_choice i one e in
        let here : held nodes i ≡ node 2 0 left right 0 = ap record_of e in
        λ s. at_choice (held nodes) s i 2 (sym (ap kind_of here)) W left (sym (ap left_of here)) refl
        (λ a b p. let q = of_pair left l r below.1 rl rr s a b p in j a b q.0 q.1)

    sequence_holds : (left right : ℕ) (l r : PartSets) → get_or nodes i entry.Empty ≡ entry.Sequence left right
        → ReadAt nulls firsts afters left l → ReadAt nulls firsts afters (i - 1) r → ((a b : Expr) → PartOf a l → PartOf b r → W (sequence a b))
        → (s : ℕ) (e : Expr) → Stands (held nodes) s e → root s e ≡ i → W e
    sequence_holds left right l r e rl rr j =
        let below = below_sequence i one e in
        let here : held nodes i ≡ node 3 0 left right 0 = ap record_of e in
        λ s. at_sequence (held nodes) s i 3 (sym (ap kind_of here)) W left (sym (ap left_of here))
        (omega arith) (λ h. absurd (omega arith)) (λ h. absurd (omega arith)) (λ a b p. let q = of_pair left l r below.1 rl rr s a b p in j a b q.0 q.1)

    repeat_holds : (body lower most : ℕ) (b : PartSets) → get_or nodes i entry.Empty ≡ entry.Repeat body lower most
        → ReadAt nulls firsts afters (i - 1) b → ((e : Expr) → PartOf e b → W (repeat e lower (bound most)))
        → (s : ℕ) (e : Expr) → Stands (held nodes) s e → root s e ≡ i → W e
    repeat_holds body lower most b e r j =
        let below = below_repeat i one e in
        let here : held nodes i ≡ node 4 0 body lower most = ap record_of e in
        λ s. at_repeat (held nodes) s i 4 (sym (ap kind_of here)) W refl
        (λ d p h q. subst₂ (λ (l u : ℕ). W (repeat d l (bound u))) (sym (ap lower_of here)) (sym (ap upper_of here))
        (j d (part_told (i - 1) s d b (omega arith) p h r)))

-- what is worked out of a node, by its kind
module _ (nodes : Nodes) (i : ℕ) (x : NodeSets) where
  pub empty_at : get_or nodes i entry.Empty ≡ entry.Empty → OfLeaf (node 0 0 0 0 0) x → WorkedAt (held nodes) i x
  unfolding OfLeaf
  empty_at e own = own (held nodes) i (ap record_of e)

  pub event_at : (code : ℕ) → get_or nodes i entry.Empty ≡ entry.Event code → OfLeaf (node 1 code 0 0 0) x → WorkedAt (held nodes) i x
  unfolding OfLeaf
  event_at code e own = own (held nodes) i (ap record_of e)

  module _ (nulls : List Bool) (firsts afters : List Codes) (one : OneOf nodes i)
      (empties : TellsNulls (held nodes) nulls i) (begun : TellsSets First (held nodes) firsts i) (ended : TellsSets After (held nodes) afters i) where
    pub choice_at : (left right : ℕ) (l r : PartSets) → get_or nodes i entry.Empty ≡ entry.Choice left right
        → ReadAt nulls firsts afters left l → ReadAt nulls firsts afters (i - 1) r → Joins choice l r x → WorkedAt (held nodes) i x
    unfolding WorkedAt Joins
    choice_at left right l r e rl rr j =
        choice_holds nodes i nulls firsts afters one empties begun ended (λ d. WorkedOut d x) left right l r e rl rr j

    pub sequence_at : (left right : ℕ) (l r : PartSets) → get_or nodes i entry.Empty ≡ entry.Sequence left right
        → ReadAt nulls firsts afters left l → ReadAt nulls firsts afters (i - 1) r → Joins sequence l r x → WorkedAt (held nodes) i x
    unfolding WorkedAt Joins
    sequence_at left right l r e rl rr j =
        sequence_holds nodes i nulls firsts afters one empties begun ended (λ d. WorkedOut d x) left right l r e rl rr j

    pub repeat_at : (body lower most : ℕ) (b : PartSets) → get_or nodes i entry.Empty ≡ entry.Repeat body lower most
        → ReadAt nulls firsts afters (i - 1) b → OverBody lower most b x → WorkedAt (held nodes) i x
    unfolding WorkedAt OverBody
    repeat_at body lower most b e r j =
        repeat_holds nodes i nulls firsts afters one empties begun ended (λ d. WorkedOut d x) body lower most b e r j

-- and the lowest conflict of a node itself
module _ (nodes : Nodes) (i : ℕ) (own : Option Clash) where
  pub empty_free : get_or nodes i entry.Empty ≡ entry.Empty → own ≡ None → ClashAt (held nodes) i own
  unfolding ClashAt
  empty_free e none = λ s.
      at_leaf (held nodes) s i 0 (sym (ap (λ (y : Entry). kind_of (record_of y)) e)) (λ d. Lowest (OwnAt i d) own) (omega arith)
      (λ at z. rw none (λ j k c y. y.1)) (λ c at z code. rw none (λ j k c y. y.1))

  pub event_free : (code : ℕ) → get_or nodes i entry.Empty ≡ entry.Event code → own ≡ None → ClashAt (held nodes) i own
  unfolding ClashAt
  event_free code e none = λ s.
      at_leaf (held nodes) s i 1 (sym (ap (λ (y : Entry). kind_of (record_of y)) e)) (λ d. Lowest (OwnAt i d) own) (omega arith)
      (λ at z. rw none (λ j k c y. y.1)) (λ c at z code. rw none (λ j k c y. y.1))

  module _ (nulls : List Bool) (firsts afters : List Codes) (one : OneOf nodes i)
      (empties : TellsNulls (held nodes) nulls i) (begun : TellsSets First (held nodes) firsts i) (ended : TellsSets After (held nodes) afters i) where
    pub choice_clash : (left right : ℕ) (l r : PartSets) → get_or nodes i entry.Empty ≡ entry.Choice left right
        → ReadAt nulls firsts afters left l → ReadAt nulls firsts afters (i - 1) r → Clashes choice i l r own → ClashAt (held nodes) i own
    unfolding ClashAt Clashes
    choice_clash left right l r e rl rr j =
        choice_holds nodes i nulls firsts afters one empties begun ended (λ d. Lowest (OwnAt i d) own) left right l r e rl rr j

    pub sequence_clash : (left right : ℕ) (l r : PartSets) → get_or nodes i entry.Empty ≡ entry.Sequence left right
        → ReadAt nulls firsts afters left l → ReadAt nulls firsts afters (i - 1) r → Clashes sequence i l r own → ClashAt (held nodes) i own
    unfolding ClashAt Clashes
    sequence_clash left right l r e rl rr j =
        sequence_holds nodes i nulls firsts afters one empties begun ended (λ d. Lowest (OwnAt i d) own) left right l r e rl rr j

    pub repeat_clash : (body lower most : ℕ) (b : PartSets) → get_or nodes i entry.Empty ≡ entry.Repeat body lower most
        → ReadAt nulls firsts afters (i - 1) b → ClashesOver i most b own → ClashAt (held nodes) i own
    unfolding ClashAt ClashesOver
    repeat_clash body lower most b e r j =
        repeat_holds nodes i nulls firsts afters one empties begun ended (λ d. Lowest (OwnAt i d) own) body lower most b e r (λ d. j d lower)

-- what `Known::node` and `Known::conflict` need of each kind
pub ruleset by_kind = (below_choice, below_sequence, below_repeat, empty_at, event_at, choice_at, sequence_at, repeat_at, empty_free, event_free, choice_clash, sequence_clash, repeat_clash)
