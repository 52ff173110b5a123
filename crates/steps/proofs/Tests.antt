-- What each test on the way up comes to. Assumes nothing.
use mathlib.Core.Path.{◌≡◌, refl, sym, ap, subst, ◌∙◌}
use mathlib.Core.Logic.{◌⊎◌, inl, inr, ⊎_elim}
use mathlib.Core.Bool.{Bool, true, false}
use mathlib.Core.List.{List, [], ◌∷◌}
use Prim.Native.Nat.{ℕ, zero, suc, ◌+◌, ◌-◌, ◌≤◌, ◌<◌, max}
use native.Mathlib.Decide.{dec_le}
use native.Mathlib.Omega.{arith}
use borrow.Author.Tests.{eq-eqb, ne_eqb}
use lib.Dec.{eqb, leb}
use lib.ListN.{get_or, set, length-set}
use lib.Seq.{get_or-set_other}
use Rattle.std.proofs.lemmas.Bool.{cond-true}
use Rattle.meaning.specs.Expr.{Upper, upto, endless, Within}
use Rattle.meaning.proofs.General.Facts.{so_leb, not_leb}
use Rattle.procedure.specs.Entry.{Nodes, held, kind_of}
use Rattle.procedure.specs.Tests.{Decides}
use Rattle.plan.specs.Link.{Links}
use Rattle.plan.specs.Plan.{rank_at}
use Rattle.steps.specs.Climb.{allowed}
use Rattle.steps.specs.Counts.{marked, Cleared, one_more, raised}

-- ---- the counters

-- a test that decides a fact is the test of it
decided_same : (P : Type 0) (a b : Bool) → Decides P a → Decides P b → a ≡ b
decided_same P true true d e = refl
decided_same P true false d e = absurd (e d)
decided_same P false true d e = absurd (d e)
decided_same P false false d e = refl

leb_decides : (j n : ℕ) → Decides (j ≤ n) (leb j n)
leb_decides j n = go (leb j n) refl
  where
    go : (b : Bool) → leb j n ≡ b → Decides (j ≤ n) b
    go true e = (so_leb j n).0 e
    go false e = let l = (not_leb j n).0 e in λ h. omega arith

allowed_decides : (j : ℕ) (upper : Upper) → Decides (Within j upper) (allowed j upper)
allowed_decides j endless = tt
allowed_decides j (upto n) = leb_decides j n

pub allowed_told : (j : ℕ) (upper : Upper) (r : Bool) → Decides (Within j upper) r → r ≡ allowed j upper
allowed_told j upper r d = decided_same (Within j upper) r (allowed j upper) d (allowed_decides j upper)

pub enough_told : (least c : ℕ) (r : Bool) → Decides (least ≤ c) r → r ≡ leb least c
enough_told least c r d = decided_same (least ≤ c) r (leb least c) d (leb_decides least c)

pub raised-there : (nodes : Nodes) (nulls : List Bool) (plan : Links) (c : List ℕ) (x r v : ℕ) → kind_of (held nodes x) ≡ 4
    → r ≡ rank_at plan x → v ≡ one_more (held nodes x) (get_or nulls (x - 1) false) (get_or c r 0)
    → set c r v ≡ raised nodes nulls plan x c
raised-there nodes nulls plan c x r v k f h =
    ap (set c r) h ∙ ap (λ (i : ℕ). set c i (one_more (held nodes x) (get_or nulls (x - 1) false) (get_or c i 0))) f
    ∙ sym (cond-true (eqb (kind_of (held nodes x)) 4) _ c (eq-eqb (kind_of (held nodes x)) 4 k))

pub raised_not : (nodes : Nodes) (nulls : List Bool) (plan : Links) (c : List ℕ) (x : ℕ) → (kind_of (held nodes x) ≡ 4 → ⊥)
    → c ≡ raised nodes nulls plan x c
raised_not nodes nulls plan c x k = rw (ne_eqb (kind_of (held nodes x)) 4 k)

pub marked-there : (nodes : Nodes) (plan : Links) (c : List ℕ) (y r : ℕ) → kind_of (held nodes y) ≡ 4 → r ≡ rank_at plan y
    → set c r 1 ≡ marked nodes plan y c
marked-there nodes plan c y r k e =
    ap (λ (i : ℕ). set c i 1) e ∙ sym (cond-true (eqb (kind_of (held nodes y)) 4) _ c (eq-eqb (kind_of (held nodes y)) 4 k))

pub marked_not : (nodes : Nodes) (plan : Links) (c : List ℕ) (y : ℕ) → (kind_of (held nodes y) ≡ 4 → ⊥) → c ≡ marked nodes plan y c
marked_not nodes plan c y k = rw (ne_eqb (kind_of (held nodes y)) 4 k)

set_zero : (l : List ℕ) (j : ℕ) → get_or (set l j 0) j 0 ≡ 0
set_zero [] zero = refl
set_zero [] (suc j) = refl
set_zero (a ∷ l) zero = refl
set_zero (a ∷ l) (suc j) = set_zero l j

pub cleared_none : (from : ℕ) (c : List ℕ) → Cleared from from c c
cleared_none from c = record { gone = λ j a b. absurd (omega arith); kept = λ j o. refl; long = refl }

pub cleared_more : (from i : ℕ) (c d : List ℕ) → from ≤ i → Cleared from i c d → Cleared from (i + 1) c (set d i 0)
cleared_more from i c d f w = record {
  gone = λ j a b. one j a b (dec_le i j);
  kept = λ j o. get_or-set_other d i j 0 0 (other j o) ∙ w.kept j (⊎_elim inl (λ l. inr (omega arith)) o);
  long = length-set d i 0 ∙ w.long;
}
  where
    one : (j : ℕ) → from ≤ j → j < i + 1 → Dec (i ≤ j) → get_or (set d i 0) j 0 ≡ 0
    one j a b (yes h) = let same : i ≡ j = omega arith in subst (λ (k : ℕ). get_or (set d i 0) k 0 ≡ 0) same (set_zero d i)
    one j a b (no h) = get_or-set_other d i j 0 0 (λ e. omega arith) ∙ w.gone j a (omega arith)

    other : (j : ℕ) → (j < from) ⊎ (i + 1 ≤ j) → j ≡ i → ⊥
    other j (inl l) e = omega arith
    other j (inr l) e = omega arith

pub cleared_all : (from to i : ℕ) (c d : List ℕ) → to ≤ i → i ≤ max from to → Cleared from i c d → Cleared from to c d
cleared_all from to i c d h m w = record {
  gone = λ j a b. w.gone j a (omega arith);
  kept = λ j o. w.kept j (⊎_elim inl (λ l. side j l (dec_le i j)) o);
  long = w.long;
}
  where
    side : (j : ℕ) → to ≤ j → Dec (i ≤ j) → (j < from) ⊎ (i ≤ j)
    side j l (yes p) = inr p
    side j l (no p) = inl (omega arith)

pub cleared_as : {a b i j : ℕ} {c d : List ℕ} → a ≡ i → b ≡ j → Cleared a b c d → Cleared i j c d
cleared_as {a} {b} {i} {j} {c} {d} e f w = subst (λ (k : ℕ). Cleared i k c d) f (subst (λ (k : ℕ). Cleared k b c d) e w)
