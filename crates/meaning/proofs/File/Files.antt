-- Laws about parts that stand in node records: a root determines the part, equal nodes hold the same parts, and the table's
-- bounds are those of the expression. Assumes nothing.
use mathlib.Core.Path.{◌≡◌, refl, sym, ap, subst, ◌∙◌}
use mathlib.Core.Logic.{⊎_elim}
use mathlib.Core.Bool.{Bool, true, false, cond}
use mathlib.Core.List.{List}
use Prim.Native.Nat.{ℕ, zero, suc, ◌+◌, ◌≤◌, ◌<◌}
use native.Mathlib.Nat.{not-suc-le-zero}
use native.Mathlib.Omega.{arith}
use lib.Dec.{eqb}
use Rattle.meaning.specs.Expr.{Expr, empty, event, choice, sequence, repeat, upto, endless, Within, size, root, Bounded}
use Rattle.meaning.specs.Node.{Node, node, InTable, empty_line, event_line, choice_line, sequence_line, repeat_line, bound, Stands}
use Rattle.meaning.specs.File.{Holds, count, node_at}
use Rattle.meaning.proofs.Expressions.Parts.{root-size}

-- ---- a root determines start and tree

-- a part: where it begins, and its expression
abbrev PartFrom : Type 0
PartFrom = ℕ × Expr

-- the part whose node is number i, from the parts of its children
made : ℕ → Node → PartFrom → PartFrom → PartFrom
made i (node zero c x y z) l r = (i, empty)
made i (node (suc zero) c x y z) l r = (i, event c)
made i (node (suc (suc zero)) c x y z) l r = (l.0, choice l.1 r.1)
made i (node (suc (suc (suc zero))) c x y z) l r = (l.0, sequence l.1 r.1)
made i (node (suc (suc (suc (suc k)))) c x y z) l r = (l.0, repeat l.1 y (bound z))

first_field : Node → ℕ
first_field (node k c x y z) = x

second_field : Node → ℕ
second_field (node k c x y z) = y

-- the part whose node is number i, read from the nodes at most n deep
part_at : (ℕ → Node) → ℕ → ℕ → PartFrom
part_at g zero i = (i, empty)
part_at g (suc n) i = made i (g i) (part_at g n (first_field (g i))) (part_at g n (second_field (g i)))

part_at_lem : (g : ℕ → Node) (n s : ℕ) (e : Expr) → root s e < n → Stands g s e → part_at g n (root s e) ≡ (s, e)
unfolding made first_field second_field part_at
part_at_lem g zero s e h p = absurd (not-suc-le-zero h)
part_at_lem g (suc n) s empty h p = rw p
part_at_lem g (suc n) s (event c) h p = rw p
part_at_lem g (suc n) s (choice l r) h p =
    let left = part_at_lem g n s l (omega (arith, root-size s l)) p.0 in
    let right = part_at_lem g n (s + size l) r (omega (arith, root-size (s + size l) r)) p.1 in
    rw (p.2, left, right)
part_at_lem g (suc n) s (sequence l r) h p =
    let left = part_at_lem g n s l (omega (arith, root-size s l)) p.0 in
    let right = part_at_lem g n (s + size l) r (omega (arith, root-size (s + size l) r)) p.1 in
    rw (p.2, left, right)
part_at_lem g (suc n) s (repeat b lower upper) h p =
    let body = part_at_lem g n s b (omega (arith, root-size s b)) p.0 in
    rw (p.1.1, body, p.1.2)

pub stands_unique : (g : ℕ → Node) (s t : ℕ) (e d : Expr) → Stands g s e → Stands g t d → root s e ≡ root t d → (s ≡ t) × (e ≡ d)
stands_unique g s t e d p q h =
    let n = suc (root s e) in
    let same : ◌≡◌ {A = PartFrom} (s, e) (t, d) =
    sym (part_at_lem g n s e (omega arith) p) ∙ ap (part_at g n) h ∙ part_at_lem g n t d (omega arith) q in
    (ap (λ (b : PartFrom). b.0) same, ap (λ (b : PartFrom). b.1) same)

-- ---- what stands in some nodes stands in nodes that are equal up to its root

pub stands_same : (g h : ℕ → Node) (n s : ℕ) (e : Expr) → ((i : ℕ) → i < n → g i ≡ h i) → root s e < n → Stands g s e → Stands h s e
stands_same g h n s empty same b p = sym (same s b) ∙ p
stands_same g h n s (event c) same b p = sym (same s b) ∙ p
stands_same g h n s (choice l r) same b p = (
  stands_same g h n s l same (omega (arith, root-size s l)) p.0,
  stands_same g h n (s + size l) r same (omega (arith, root-size (s + size l) r)) p.1,
  sym (same (s + size l + size r) b) ∙ p.2,
)
stands_same g h n s (sequence l r) same b p = (
  stands_same g h n s l same (omega (arith, root-size s l)) p.0,
  stands_same g h n (s + size l) r same (omega (arith, root-size (s + size l) r)) p.1,
  sym (same (s + size l + size r) b) ∙ p.2,
)
stands_same g h n s (repeat d lower upper) same b p = (
  stands_same g h n s d same (omega (arith, root-size s d)) p.0,
  (p.1.0, sym (same (s + size d) b) ∙ p.1.1, p.1.2),
)

-- ---- the table's bounds

repeat_written : {k c b lower upper : ℕ} → InTable (node k c b lower upper) → k ≡ 4 → (lower ≤ upper) × (1 ≤ upper)
repeat_written empty_line e = absurd (omega arith)
repeat_written (event_line c h) e = absurd (omega arith)
repeat_written (choice_line l r) e = absurd (omega arith)
repeat_written (sequence_line l r) e = absurd (omega arith)
repeat_written (repeat_line b lower upper h written l) e = (l, ⊎_elim (λ p. p.0) (λ p. omega arith) written)

within : (none : Bool) (j u : ℕ) → j ≤ u → Within j (cond none endless (upto u))
within true j u h = tt
within false j u h = h

pub table_bounded : (g : ℕ → Node) (n s : ℕ) (e : Expr) → ((i : ℕ) → i < n → InTable (g i)) → root s e < n → Stands g s e → Bounded e
table_bounded g n s empty table h p = tt
table_bounded g n s (event c) table h p = tt
table_bounded g n s (choice l r) table h p = (
  table_bounded g n s l table (omega (arith, root-size s l)) p.0,
  table_bounded g n (s + size l) r table (omega (arith, root-size (s + size l) r)) p.1,
)
table_bounded g n s (sequence l r) table h p = (
  table_bounded g n s l table (omega (arith, root-size s l)) p.0,
  table_bounded g n (s + size l) r table (omega (arith, root-size (s + size l) r)) p.1,
)
table_bounded g n s (repeat b lower upper) table h p =
    let u = p.1.0 in
    let written = repeat_written (subst InTable p.1.1 (table (s + size b) h)) refl in (
      table_bounded g n s b table (omega (arith, root-size s b)) p.0,
      subst (Within lower) (sym p.1.2) (within (eqb u 65535) lower u written.0),
      subst (Within 1) (sym p.1.2) (within (eqb u 65535) 1 u written.1),
    )

pub holds_bounded : {f : List ℕ} {e : Expr} → Holds f e → Bounded e
holds_bounded {f} {e} h =
    let lists = h.formed.lists in
    table_bounded (node_at f) (count f) 0 e h.formed.table (omega (arith, root-size 0 e)) lists.0
