-- What the part at a node takes, from what its children take: the laws of Eats at the nodes of a file. Assumes nothing.
use mathlib.Core.Path.{◌≡◌, refl, sym, ap, subst, ◌∙◌}
use mathlib.Core.Bool.{Bool, true, false, false≢true}
use mathlib.Core.List.{List}
use Prim.Native.Nat.{ℕ, ◌+◌, ◌-◌, ◌<◌}
use native.Mathlib.Omega.{arith}
use lib.ListN.{drop}
use Rattle.std.specs.Prelude.{Option, Some, None, nat_eq}
use Rattle.std.specs.Bool.{then_some}
use Rattle.std.specs.List.{slice_get}
use Rattle.std.specs.Option.{option_eq}
use Rattle.meaning.specs.Expr.{Expr, empty, event, size, root}
use Rattle.meaning.specs.Node.{Node, node}
use Rattle.meaning.specs.Reading.{Item, Reading}
use Rattle.procedure.specs.Entry.{kind_of, left_of}
use Rattle.procedure.specs.Listing.{NullAt}
use Rattle.record.specs.Walk.{Names, from, nowhere, Eats, remainder_of, EatsAt}
use Rattle.record.proofs.Bytes.{item_named, outside_at, same_item}
use Rattle.meaning.proofs.Expressions.ReadingHeads.{Heads, reading_heads, empty_reading, reading_empty}
use Rattle.procedure.proofs.Standing.{Pair, part_start, at_leaf, at_choice, at_sequence}
use Rattle.record.proofs.Eats.{Sides, eats_nothing, eats_nowhere, empty_nowhere, event_taken, event_nowhere, choice_left, choice_right, sequence_both, sequence_nowhere}

-- ---- a part that is passed by, and a leaf

part_heads : (s i : ℕ) (e : Expr) → root s e ≡ i → (x : List Item) → Reading s e x → Heads s i x
part_heads s i e h x p = subst (λ (j : ℕ). Heads s j x) h (reading_heads s e x p)

pub pass_by : (g : ℕ → Node) (null : Bool) (w : List ℕ) (s i at : ℕ) (item : Option ℕ) → i < 512 → NullAt g i null → item ≡ slice_get w at
    → ¬ Names s i item → EatsAt g w s i at (then_some null at)
unfolding EatsAt NullAt
pass_by g true w s i at item small known e out = λ x p h.
    eats_nothing (Reading s x) s i (omega arith) (part_heads s i x h) (drop at w) (empty_reading s x (sym (known s x p h))) (outside_at w at s i item e out)
pass_by g false w s i at item small known e out = λ x p h.
    eats_nowhere (Reading s x) s i (omega arith) (part_heads s i x h) (drop at w) (λ q. false≢true (known s x p h ∙ reading_empty s x q))
    (outside_at w at s i item e out)

-- the item at `at` names a node of the part
module _ (g : ℕ → Node) (w : List ℕ) (s i at : ℕ) (small : i < 512) (item : Option ℕ) (e : item ≡ slice_get w at) (named : Names s i item) where
  pub empty_eats : g i ≡ node 0 0 0 0 0 → EatsAt g w s i at None
  unfolding EatsAt
  empty_eats here =
      let there = item_named w at s i item e named in
      at_leaf g s i 0 (sym (ap kind_of here)) (λ x. Eats (Reading s x) s i (drop at w) nowhere) (omega arith)
      (λ same z.
      subst (λ (j : ℕ). Eats (Reading s empty) s j (drop at w) nowhere) (sym same)
      (empty_nowhere s there.0 (drop at w) (drop (at + 1) w) there.4 (omega arith)))
      (λ c same z code. absurd (omega arith))

  pub event_eats : (c : ℕ) (same : Bool) → g i ≡ node 1 c 0 0 0 → same ≡ option_eq nat_eq item (Some i) → EatsAt g w s i at (then_some same (at + 1))
  unfolding EatsAt
  event_eats c true here told =
      let there = item_named w at s i item e named in
      let d : item ≡ Some i = same_item item i true told in
      let n : there.0 ≡ i = cc in
      at_leaf g s i 1 (sym (ap kind_of here)) (λ x. Eats (Reading s x) s i (drop at w) (from (drop (at + 1) w))) (omega arith)
      (λ same z. absurd (omega arith))
      (λ c same z code.
      subst (λ (j : ℕ). Eats (Reading s (event c)) s j (drop at w) (from (drop (at + 1) w))) (sym same)
      (event_taken s c there.0 (drop at w) (drop (at + 1) w) there.4 (n ∙ same)))
  event_eats c false here told =
      let there = item_named w at s i item e named in
      at_leaf g s i 1 (sym (ap kind_of here)) (λ x. Eats (Reading s x) s i (drop at w) nowhere) (omega arith)
      (λ same z. absurd (omega arith))
      (λ c same z code.
      subst (λ (j : ℕ). Eats (Reading s (event c)) s j (drop at w) nowhere) (sym same)
      (event_nowhere s c there.0 (drop at w) (drop (at + 1) w) there.4 (λ q. same_item item i false told (there.2 ∙ ap Some (q ∙ sym same)))))

-- ---- a choice, and a sequence

module _ (g : ℕ → Node) (w : List ℕ) (s i at left right : ℕ) (small : i < 512) where
  sides : (p q : Expr) → Pair g s i left p q → Sides (Reading s p) (Reading (s + size p) q) s left (s + size p) (i - 1) i
  sides p q t =
      record {
        next = t.next;
        begun = omega (arith, part_start s p, t.first_at);
        up = omega (arith, t.next, t.here);
        below = omega (arith, t.next, t.here);
        small = omega arith;
        left_heads = part_heads s left p t.first_at;
        right_heads = part_heads (s + size p) (i - 1) q t.second_at;
      }

  -- what the right takes
  right_eats : (p q : Expr) → Pair g s i left p q → (place : ℕ) (r : Option ℕ) → EatsAt g w (left + 1) (i - 1) place r
      → Eats (Reading (s + size p) q) (s + size p) (i - 1) (drop place w) (remainder_of w r)
  unfolding EatsAt
  right_eats p q t place r a = subst (λ (j : ℕ). EatsAt g w j (i - 1) place r) (sym t.next) a q t.second t.second_at

  module _ (here : g i ≡ node 2 0 left right 0) (item : Option ℕ) (e : item ≡ slice_get w at) where
    pub choice_goes_left : (r : Option ℕ) → Names s left item → EatsAt g w s left at r → EatsAt g w s i at r
    unfolding EatsAt
    choice_goes_left r named a =
        let there = item_named w at s left item e named in
        at_choice g s i 2 (sym (ap kind_of here)) (λ x. Eats (Reading s x) s i (drop at w) (remainder_of w r)) left (sym (ap left_of here)) refl
        (λ p q t.
        choice_left (sides p q t) there.0 (drop at w) (drop (at + 1) w) (remainder_of w r) there.4 there.1 (a p t.first t.first_at))

    pub choice_goes_right : (r : Option ℕ) → Names s i item → ¬ Names s left item → EatsAt g w (left + 1) (i - 1) at r → EatsAt g w s i at r
    unfolding EatsAt
    choice_goes_right r named out a =
        let there = item_named w at s i item e named in
        at_choice g s i 2 (sym (ap kind_of here)) (λ x. Eats (Reading s x) s i (drop at w) (remainder_of w r)) left (sym (ap left_of here)) refl
        (λ p q t.
        choice_right (sides p q t) there.0 (drop at w) (drop (at + 1) w) (remainder_of w r) there.4 there.1
        (λ h. out (subst (Names s left) (sym there.2) h)) (right_eats p q t at r a))

  module _ (here : g i ≡ node 3 0 left right 0) where
    pub sequence_goes : (r : Option ℕ) (next : ℕ) → EatsAt g w s left at (Some next) → EatsAt g w (left + 1) (i - 1) next r → EatsAt g w s i at r
    unfolding EatsAt
    sequence_goes r next a b =
        at_sequence g s i 3 (sym (ap kind_of here)) (λ x. Eats (Reading s x) s i (drop at w) (remainder_of w r)) left (sym (ap left_of here))
        (omega arith) (omega arith) (omega arith)
        (λ p q t. sequence_both (sides p q t) (drop at w) (drop next w) (remainder_of w r) (a p t.first t.first_at) (right_eats p q t next r b))

    pub sequence_stuck : EatsAt g w s left at None → EatsAt g w s i at None
    unfolding EatsAt
    sequence_stuck a =
        at_sequence g s i 3 (sym (ap kind_of here)) (λ x. Eats (Reading s x) s i (drop at w) nowhere) left (sym (ap left_of here))
        (omega arith) (omega arith) (omega arith)
        (λ p q t. sequence_nowhere (sides p q t) (drop at w) (a p t.first t.first_at))
