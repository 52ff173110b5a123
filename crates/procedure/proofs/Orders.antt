-- How a node is in order: from the parts of its children, and what it then says of them. Assumes nothing.
use Rattle.std.proofs.Common.{Err, Ok}
use mathlib.Core.Path.{◌≡◌, refl, sym, ap, subst, ◌∙◌}
use mathlib.Core.Logic.{◌⊎◌, inl, inr, ⊎_elim}
use mathlib.Core.List.{List}
use Prim.Native.Nat.{ℕ, ◌+◌, ◌-◌, ◌≤◌, ◌<◌}
use native.Mathlib.Omega.{arith}
use borrow.Author.Count.{below_more, below_none}
use lib.ListN.{length, get_or, set}
use lib.Seq.{get_or-set_same, get_or-set_other}
use Rattle.meaning.specs.Expr.{Expr, empty, event, choice, sequence, repeat, size, root}
use Rattle.meaning.specs.Node.{Node, node, InOrder, Stands, bound}
use Rattle.meaning.specs.declared.Refusal.TheVariants.{Order}
use Rattle.meaning.proofs.Expressions.Parts.{root-size}
use Rattle.meaning.proofs.File.Files.{stands_unique}
use Rattle.procedure.specs.Entry.{kind_of, left_of, right_of, body_of}
use Rattle.procedure.specs.Listing.{Spans, TellsStarts}
use Rattle.procedure.specs.Order.{FindsStarts, OrderedBelow, late, whole}

size_pos : (e : Expr) → 1 ≤ size e
size_pos empty = omega arith
size_pos (event c) = omega arith
size_pos (choice l r) = omega arith
size_pos (sequence l r) = omega arith
size_pos (repeat b lower upper) = omega arith

-- a part begins at or below its own node
pub spans_below : (g : ℕ → Node) (s i : ℕ) → Spans g s i → s ≤ i
spans_below g s i b = omega (arith, root-size s b.0, size_pos b.0, b.2)

spans_unique : (g : ℕ → Node) (s t i : ℕ) → Spans g s i → Spans g t i → s ≡ t
spans_unique g s t i b d = (stands_unique g s t b.0 d.0 b.1 d.1 (b.2 ∙ sym d.2)).0

-- ---- a node whose children stand before it is in order

pub empty_spans : (g : ℕ → Node) (i : ℕ) → g i ≡ node 0 0 0 0 0 → Spans g i i
empty_spans g i e = (empty, e, refl)

pub event_spans : (g : ℕ → Node) (i c : ℕ) → g i ≡ node 1 c 0 0 0 → Spans g i i
event_spans g i c e = (event c, e, refl)

pub repeat_spans : (g : ℕ → Node) (s i body lower upper : ℕ) → g i ≡ node 4 0 body lower upper → 1 ≤ i → body ≡ i - 1 → Spans g s (i - 1) → Spans g s i
repeat_spans g s i body lower upper e h named b =
    let part = b.0 in
    let here : s + size part ≡ i = omega (arith, root-size s part, b.2) in
    (repeat part lower (bound upper), (b.1, (upper, ap g here ∙ e ∙ ap (λ (x : ℕ). node 4 0 x lower upper) (named ∙ sym b.2), refl)), here)

-- the node of a choice or a sequence with these children
abbrev pub TwoChildren : Node → ℕ → ℕ → Type 0
TwoChildren n left right = (n ≡ node 2 0 left right 0) ⊎ (n ≡ node 3 0 left right 0)

-- the node of a choice or a sequence whose parts are l, from s, and r, from t
pair_at : (g : ℕ → Node) (k s t i left right : ℕ) (l r : Expr) → 1 ≤ i → 1 ≤ t → root s l ≡ t - 1 → root t r ≡ i - 1 → left ≡ t - 1 → right ≡ i - 1
    → g i ≡ node k 0 left right 0 → (s + size l ≡ t) × (s + size l + size r ≡ i) × (g (s + size l + size r) ≡ node k 0 (root s l) (root (s + size l) r) 0)
pair_at g k s t i left right l r h ht el er first second e =
    let next : s + size l ≡ t = omega (arith, root-size s l) in
    let here : s + size l + size r ≡ i = omega (arith, root-size t r) in
    let a : left ≡ root s l = first ∙ sym el in
    let b : right ≡ root (s + size l) r = second ∙ sym er ∙ ap (λ (x : ℕ). root x r) (sym next) in
    (next, here, ap g here ∙ e ∙ (λ j. node k 0 (a j) (b j) 0))

pub pair_spans : (g : ℕ → Node) (s t i left right : ℕ) → TwoChildren (g i) left right → 1 ≤ i → right ≡ i - 1 → Spans g t (i - 1) → 1 ≤ t → left ≡ t - 1
    → Spans g s (t - 1) → Spans g s i
pair_spans g s t i left right two h second br ht first bl =
    let l = bl.0 in
    let r = br.0 in
    ⊎_elim
    (λ e. let q = pair_at g 2 s t i left right l r h ht bl.2 br.2 first second e in
    (choice l r, (bl.1, subst (λ (x : ℕ). Stands g x r) (sym q.0) br.1, q.2), q.1))
    (λ e. let q = pair_at g 3 s t i left right l r h ht bl.2 br.2 first second e in
    (sequence l r, (bl.1, subst (λ (x : ℕ). Stands g x r) (sym q.0) br.1, q.2), q.1))
    two

-- ---- what a node in order says of its children

-- a repeat: its body is the node before it
abbrev Single : (ℕ → Node) → ℕ → Type 0
Single g i = (kind_of (g i) ≡ 4) × (1 ≤ i) × (body_of (g i) ≡ i - 1)

-- a choice or a sequence: its right child is the node before it, its left child the node before the right part
abbrev Pair : (ℕ → Node) → ℕ → Type 0
Pair g i =
    (1 ≤ i) × (kind_of (g i) < 4) × (right_of (g i) ≡ i - 1) × ((t : ℕ) × Spans g t (i - 1) × (1 ≤ t) × (left_of (g i) ≡ t - 1))

abbrev Shape : (ℕ → Node) → ℕ → Type 0
Shape g i = (kind_of (g i) < 2) ⊎ (Single g i ⊎ Pair g i)

paired : (g : ℕ → Node) (k s : ℕ) (l r : Expr) → k < 4 → Stands g (s + size l) r
    → g (s + size l + size r) ≡ node k 0 (root s l) (root (s + size l) r) 0 → Pair g (s + size l + size r)
paired g k s l r h p e =
    let t = s + size l in
    let a = root-size s l in
    let b = root-size t r in
    let c = size_pos l in
    let d = size_pos r in
    (omega arith, rw e h, rw e (omega arith), (t, (r, p, omega arith), omega arith, rw e (omega arith)))

shape : (g : ℕ → Node) (s : ℕ) (e : Expr) → Stands g s e → Shape g (root s e)
shape g s empty p = inl (rw p (omega arith))
shape g s (event c) p = inl (rw p (omega arith))
shape g s (choice l r) p = inr (inr (paired g 2 s l r (omega arith) p.1 p.2))
shape g s (sequence l r) p = inr (inr (paired g 3 s l r (omega arith) p.1 p.2))
shape g s (repeat b lower upper) p =
    let a = root-size s b in
    let c = size_pos b in
    inr (inl (rw p.1.1, omega arith, rw p.1.1 (omega arith)))

shaped : (g : ℕ → Node) (i : ℕ) → InOrder g i → Shape g i
shaped g i o = subst (Shape g) o.3 (shape g o.0 o.1 o.2)

pub childless : (g : ℕ → Node) (i : ℕ) → 2 ≤ kind_of (g i) → i < 1 → ¬ InOrder g i
childless g i h l o = ⊎_elim (λ p. omega arith) (⊎_elim (λ p. omega arith) (λ p. omega (arith, p.0))) (shaped g i o)

pub body_off : (g : ℕ → Node) (i : ℕ) → kind_of (g i) ≡ 4 → ¬ (body_of (g i) ≡ i - 1) → ¬ InOrder g i
body_off g i k h o = ⊎_elim (λ p. omega arith) (⊎_elim (λ p. h p.2) (λ p. omega (arith, p.1))) (shaped g i o)

-- the numbers of a node with two children
numbers : (n : Node) (left right : ℕ) → TwoChildren n left right → (2 ≤ kind_of n) × (kind_of n < 4) × (left_of n ≡ left) × (right_of n ≡ right)
numbers n left right two = ⊎_elim (λ e. rw e (omega arith, omega arith, refl, refl)) (λ e. rw e (omega arith, omega arith, refl, refl)) two

pub pair_says : (g : ℕ → Node) (i left right : ℕ) → TwoChildren (g i) left right → InOrder g i
    → (1 ≤ i) × (right ≡ i - 1) × ((t : ℕ) → Spans g t (i - 1) → (1 ≤ t) × (left ≡ t - 1))
pair_says g i left right two o =
    let m = numbers (g i) left right two in
    ⊎_elim (λ p. absurd (omega (arith, m.0)))
    (⊎_elim (λ p. absurd (omega (arith, m.1, p.0)))
    (λ p. (p.0, sym m.3 ∙ p.2, λ t b. let same = spans_unique g p.3.0 t (i - 1) p.3.1 b in (omega (arith, p.3.2), omega (arith, m.2, p.3.3)))))
    (shaped g i o)

-- ---- the starts, one by one

pub starts_none : (g : ℕ → Node) (starts : List ℕ) → TellsStarts g starts 0
unfolding TellsStarts
starts_none g starts = below_none _

pub starts_more : (g : ℕ → Node) (starts : List ℕ) (i s : ℕ) → i < length starts → TellsStarts g starts i → Spans g s i → TellsStarts g (set starts i s) (i + 1)
unfolding TellsStarts
starts_more g starts i s h told b =
    below_more _ i
    (λ j l. subst (λ (x : ℕ). Spans g x j) (sym (get_or-set_other starts i j s 0 (omega arith))) (told j l))
    (subst (λ (x : ℕ). Spans g x i) (sym (get_or-set_same starts i s 0 h)) b)

pub start_told : (g : ℕ → Node) (starts : List ℕ) (n i : ℕ) → TellsStarts g starts n → i < n → Spans g (get_or starts i 0) i
unfolding TellsStarts
start_told g starts n i told l = told i l

-- of a part that stands among the nodes
pub start_of_part : (g : ℕ → Node) (starts : List ℕ) (n s : ℕ) (e : Expr) → TellsStarts g starts n → Stands g s e → root s e < n → get_or starts (root s e) 0 ≡ s
start_of_part g starts n s e told st l = spans_unique g _ s (root s e) (start_told g starts n (root s e) told l) (e, st, refl)

pub starts_ordered : (g : ℕ → Node) (starts : List ℕ) (n : ℕ) → TellsStarts g starts n → OrderedBelow g n
starts_ordered g starts n told j l = let b = start_told g starts n j told l in (get_or starts j 0, b.0, b.1, b.2)

-- every start is found: that of the last part decides
pub late_start : (g : ℕ → Node) (starts : List ℕ) (n : ℕ) → 1 ≤ n → TellsStarts g starts n → 0 < get_or starts (n - 1) 0
    → FindsStarts g starts n (Err (Order (n - 1)))
late_start g starts n h told l =
    late
    (n - 1)
    (omega arith)
    (starts_ordered g starts n told)
    (λ b. omega (arith, spans_unique g (get_or starts (n - 1) 0) 0 (n - 1) (start_told g starts n (n - 1) told (omega arith)) b))

pub whole_start : (g : ℕ → Node) (starts : List ℕ) (n : ℕ) → 1 ≤ n → TellsStarts g starts n → get_or starts (n - 1) 0 ≤ 0 → FindsStarts g starts n (Ok tt)
whole_start g starts n h told l =
    let first : get_or starts (n - 1) 0 ≡ 0 = omega arith in
    whole (subst (λ (s : ℕ). Spans g s (n - 1)) first (start_told g starts n (n - 1) told (omega arith))) told
