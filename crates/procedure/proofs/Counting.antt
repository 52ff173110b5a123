-- Repeats, counted node by node. Assumes nothing.
use mathlib.Core.Path.{◌≡◌, refl, sym, ap, subst}
use mathlib.Core.Bool.{Bool}
use mathlib.Core.List.{List}
use Prim.Native.Nat.{ℕ, zero, suc, ◌+◌, ◌≤◌, ◌<◌}
use native.Mathlib.Numerals.{add-one}
use native.Mathlib.Omega.{arith}
use borrow.Author.Count.{below_more, below_none}
use borrow.Author.Tests.{eq-eqb, ne_eqb}
use lib.ListN.{length, set}
use lib.Seq.{get_or-set_same, get_or-set_other}
use Rattle.std.proofs.Common.{Err}
use Rattle.meaning.specs.Node.{Node, node, is_repeat, repeats_below}
use Rattle.procedure.specs.declared.node.Node.TheVariants as entry
use Rattle.procedure.specs.Entry.{Entry, kind_of, record_of}
use Rattle.procedure.specs.Listing.{RepeatAt, TellsRepeats}
use Rattle.procedure.specs.Repeats.{ListsRepeats, over}

pub repeat_counts : (n : Node) → kind_of n ≡ 4 → is_repeat n ≡ 1
repeat_counts (node k c x y z) e = rw (eq-eqb k 4 e)

pub other_counts : (n : Node) → ¬ (kind_of n ≡ 4) → is_repeat n ≡ 0
other_counts (node k c x y z) h = rw (ne_eqb k 4 h)

-- a node of another variant is none
pub no_repeat : (x : Entry) → ((body lower upper : ℕ) → ¬ (x ≡ entry.Repeat body lower upper)) → ¬ (kind_of (record_of x) ≡ 4)
no_repeat entry.Empty h e = omega arith
no_repeat (entry.Event c) h e = omega arith
no_repeat (entry.Choice left right) h e = omega arith
no_repeat (entry.Sequence left right) h e = omega arith
no_repeat (entry.Repeat body lower upper) h e = h body lower upper refl

pub counted_more : (g : ℕ → Node) (i : ℕ) → repeats_below g (i + 1) ≡ repeats_below g i + is_repeat (g i)
counted_more g i = ap (repeats_below g) (add-one i)

-- nodes that are equal below n have as many repeats up to there
pub same_count : (g h : ℕ → Node) (n : ℕ) → ((i : ℕ) → i < n → g i ≡ h i) → (i : ℕ) → i ≤ n → repeats_below g i ≡ repeats_below h i
same_count g h n same zero l = refl
same_count g h n same (suc i) l = let before = same_count g h n same i (omega arith) in let here = ap is_repeat (same i l) in omega arith

-- ---- the repeats, listed one by one

pub repeats_none : (g : ℕ → Node) (list : List ℕ) → TellsRepeats g list 0 0
repeats_none g list = record { counted = refl; each = below_none _ }

further : {g : ℕ → Node} {i k y : ℕ} → RepeatAt g i k y → RepeatAt g (i + 1) k y
further p = record { below = omega (arith, p.below); repeats = p.repeats; rank = p.rank }

-- past a node that is none, the list is as it was
pub repeats_same : (g : ℕ → Node) (list : List ℕ) (i r : ℕ) → ¬ (kind_of (g i) ≡ 4) → TellsRepeats g list i r → TellsRepeats g list (i + 1) r
repeats_same g list i r other told =
    let here = counted_more g i in
    let none = other_counts (g i) other in
    let before = told.counted in
    record { counted = omega arith; each = λ k l. further (told.each k l) }

-- past one that is, it has one more
pub repeats_more : (g : ℕ → Node) (list : List ℕ) (i r : ℕ) → r < length list → kind_of (g i) ≡ 4 → TellsRepeats g list i r
    → TellsRepeats g (set list r i) (i + 1) (r + 1)
repeats_more g list i r h repeat told =
    let here = counted_more g i in
    let one = repeat_counts (g i) repeat in
    let before = told.counted in
    let last : RepeatAt g (i + 1) r i = record { below = omega arith; repeats = repeat; rank = sym before } in
    record {
      counted = omega arith;
      each =
          below_more _ r
          (λ k l. subst (RepeatAt g (i + 1) k) (sym (get_or-set_other list r k i 0 (omega arith))) (further (told.each k l)))
          (subst (RepeatAt g (i + 1) r) (sym (get_or-set_same list r i 0 h)) last);
    }

-- the list is full, and here is one more
pub repeats_over : (g : ℕ → Node) (nulls : List Bool) (list : List ℕ) (n i r : ℕ) → i < n → kind_of (g i) ≡ 4 → TellsRepeats g list i r → r ≡ 32
    → ListsRepeats g nulls list n (Err i)
repeats_over g nulls list n i r l repeat told full =
    let one = repeat_counts (g i) repeat in
    let before = told.counted in
    over i l (omega arith) (omega arith)
