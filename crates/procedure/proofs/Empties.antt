-- Which parts have the empty word: of each kind of node from its children, and the list of them, filled one by one. Assumes nothing.
use mathlib.Core.Path.{◌≡◌, refl, sym, ap, ap₂, subst, ◌∙◌}
use mathlib.Core.Bool.{Bool, true, false, ◌||◌, ◌&&◌}
use mathlib.Core.List.{List}
use Prim.Native.Nat.{ℕ, zero, suc, ◌+◌, ◌-◌, ◌≤◌, ◌<◌}
use native.Mathlib.Omega.{arith}
use borrow.Author.Count.{below_more}
use borrow.Author.Tests.{eq-eqb, ne_eqb}
use lib.Dec.{eqb}
use lib.ListN.{length, get_or, set}
use lib.Seq.{get_or-set_same, get_or-set_other}
use Rattle.meaning.specs.Expr.{Expr, root, size}
use Rattle.meaning.specs.Node.{InOrder, Node, Stands, node}
use Rattle.meaning.specs.Normal.{nullable, is_zero}
use Rattle.procedure.specs.Entry.{kind_of, left_of, lower_of}
use Rattle.procedure.specs.Listing.{NullAt, TellsNulls}
use Rattle.procedure.proofs.Standing.{at_leaf, at_choice, at_sequence, at_repeat, last_order}

pub zero_test : (n : ℕ) → eqb n 0 ≡ is_zero n
zero_test zero = eq-eqb 0 0 refl
zero_test (suc n) = ne_eqb (suc n) 0 (λ e. omega arith)

module _ (g : ℕ → Node) (i : ℕ) where
  pub null_empty : g i ≡ node 0 0 0 0 0 → NullAt g i true
  unfolding NullAt
  null_empty e = λ s. at_leaf g s i 0 (sym (ap kind_of e)) (λ p. true ≡ nullable p) (omega arith) (λ h z. refl) (λ c h z d. absurd (omega arith))

  pub null_event : (c : ℕ) → g i ≡ node 1 c 0 0 0 → NullAt g i false
  unfolding NullAt
  null_event c e = λ s. at_leaf g s i 1 (sym (ap kind_of e)) (λ p. false ≡ nullable p) (omega arith) (λ h z. absurd (omega arith)) (λ d h z f. refl)

  -- of a node with children, from what is known of their parts
  module _ (nulls : List Bool) (known : TellsNulls g nulls i) (o : InOrder g i) (null : Bool) where
    pub null_choice : (left right : ℕ) → g i ≡ node 2 0 left right 0 → null ≡ (get_or nulls left false || get_or nulls (i - 1) false) → NullAt g i null
    unfolding TellsNulls NullAt
    null_choice left right e h = λ s. at_choice g s i 2 (sym (ap kind_of e)) (λ p. null ≡ nullable p) left (sym (ap left_of e)) refl
        (λ a b p. let some = (last_order g i 2 (sym (ap kind_of e)) (omega arith) o).1 in
        h ∙ ap₂ ◌||◌ (known left (omega (arith, p.next, p.here)) s a p.first p.first_at) (known (i - 1) (omega arith) (s + size a) b p.second p.second_at))

    pub null_sequence : (left right : ℕ) → g i ≡ node 3 0 left right 0 → null ≡ (get_or nulls left false && get_or nulls (i - 1) false) → NullAt g i null
    unfolding TellsNulls NullAt
    null_sequence left right e h = λ s.
        at_sequence g s i 3 (sym (ap kind_of e)) (λ p. null ≡ nullable p) left (sym (ap left_of e)) (omega arith) (λ z. omega arith) (λ z. omega arith)
        (λ a b p. let some = (last_order g i 3 (sym (ap kind_of e)) (omega arith) o).1 in
        h ∙ ap₂ ◌&&◌ (known left (omega (arith, p.next, p.here)) s a p.first p.first_at) (known (i - 1) (omega arith) (s + size a) b p.second p.second_at))

    pub null_repeat : (body lower upper : ℕ) → g i ≡ node 4 0 body lower upper → null ≡ (eqb lower 0 || get_or nulls (i - 1) false) → NullAt g i null
    unfolding TellsNulls NullAt
    null_repeat body lower upper e h = λ s. at_repeat g s i 4 (sym (ap kind_of e)) (λ p. null ≡ nullable p) refl
        (λ b p k q. let some = (last_order g i 4 (sym (ap kind_of e)) (omega arith) o).1 in
        h ∙ ap₂ ◌||◌ (zero_test lower ∙ ap is_zero (sym (ap lower_of e))) (known (i - 1) (omega arith) s b p k))

-- ---- the list of them

pub nulls_none : (g : ℕ → Node) (nulls : List Bool) → TellsNulls g nulls 0
unfolding TellsNulls
nulls_none g nulls = λ j l. absurd (omega arith)

pub nulls_more : (g : ℕ → Node) (nulls : List Bool) (i : ℕ) (null : Bool) → i < length nulls → TellsNulls g nulls i → NullAt g i null → TellsNulls g (set nulls i null) (i + 1)
unfolding TellsNulls
nulls_more g nulls i null h known here =
    below_more _ i
    (λ j l. subst (NullAt g j) (sym (get_or-set_other nulls i j null false (omega arith))) (known j l))
    (subst (NullAt g i) (sym (get_or-set_same nulls i null false h)) here)

-- what the table tells of a node is so of the part that stands there
pub null_told : (g : ℕ → Node) (nulls : List Bool) (n i : ℕ) → TellsNulls g nulls n → i < n → NullAt g i (get_or nulls i false)
unfolding TellsNulls
null_told g nulls n i told l = told i l

pub nulls_fewer : (g : ℕ → Node) (nulls : List Bool) (m n : ℕ) → m ≤ n → TellsNulls g nulls n → TellsNulls g nulls m
unfolding TellsNulls
nulls_fewer g nulls m n h told = λ j l. told j (omega arith)

-- of a part that stands among the nodes
pub null_of_part : (g : ℕ → Node) (nulls : List Bool) (n s : ℕ) (e : Expr) → TellsNulls g nulls n → Stands g s e → root s e < n
    → get_or nulls (root s e) false ≡ nullable e
unfolding TellsNulls NullAt
null_of_part g nulls n s e told st l = told (root s e) l s e st refl
