-- The lowest conflict of a node itself, from what is known of its children. Each law ends in what a combiner promises. Assumes nothing.
use mathlib.Core.Bool.{Bool, So}
use mathlib.Core.Logic.{◌↔◌, inl, inr, ⊎_elim}
use mathlib.Core.Logic.Iff
use mathlib.Core.Path.{◌≡◌, sym, subst, ◌∙◌}
use Prim.Native.Nat.{ℕ}
use native.Mathlib.Omega.{arith}
use Rattle.std.specs.Prelude.{Option, Some, MatchOption}
use Rattle.codes.specs.Codes.{Codes, Contains}
use Rattle.meaning.specs.Expr.{Expr, choice, sequence, repeat, Upper, Within}
use Rattle.meaning.specs.Node.{bound}
use Rattle.meaning.specs.Normal.{nullable, low}
use Rattle.meaning.specs.Sets.{First, After}
use Rattle.procedure.specs.Bounds.{Normal, upper}
use Rattle.procedure.specs.Tests.{Decides}
use Rattle.procedure.specs.declared.bounds.Bounds.{Bounds}
use Rattle.procedure.proofs.Deciding.{decides_so}
use Rattle.sets.specs.Lowest.{Clash, Lowest, OwnAt, SharedAt}
use Rattle.sets.specs.Sets.{Clashes, ClashesOver}
use Rattle.sets.specs.declared.joins.PartSets.{PartSets}
use Rattle.sets.proofs.Joining.{Exactly, begun}
use Rattle.sets.proofs.Lowest.{Either, Same, Ahead, lowest_same, lowest_or_else}

-- ---- a choice

choice_own : (i : ℕ) (l r : Expr) (a b : Codes) → Exactly a (First l) → Exactly b (First r) → Same (SharedAt i 1 a b) (OwnAt i (choice l r))
choice_own i l r a b p q j k c = (
  λ x. (x.0, (x.1, (p c).0 x.2.0, (q c).0 x.2.1)),
  λ x. (x.0, x.1.0, ((p c).1 x.1.1, (q c).1 x.1.2)),
)

pub clash_choice : (i : ℕ) (l r : PartSets) (own : Option Clash) → Lowest (SharedAt i 1 l.first r.first) own → Clashes choice i l r own
unfolding Clashes
clash_choice i l r own n p q x y = lowest_same _ (OwnAt i (choice p q)) (choice_own i p q l.first r.first x.firsts y.firsts) own n

-- ---- a sequence

sequence_own : (i : ℕ) (l r : Expr) (a b d begins : Codes) → Exactly a (First l) → Exactly b (First r) → Exactly d (After l)
    → Exactly begins (λ c. So (nullable l) × First r c) → Same (Either (SharedAt i 2 a begins) (SharedAt i 3 d b)) (OwnAt i (sequence l r))
sequence_own i l r a b d begins p q o w j k c = (
  ⊎_elim (λ x. (x.0, inl (x.1, ((w c).0 x.2.1).0, (p c).0 x.2.0, ((w c).0 x.2.1).1)))
      (λ x. (x.0, inr (x.1, (o c).0 x.2.0, (q c).0 x.2.1))),
  λ x. ⊎_elim (λ y. inl (x.0, y.0, ((p c).1 y.2, (w c).1 (y.1, y.3)))) (λ y. inr (x.0, y.0, ((o c).1 y.1, (q c).1 y.2))) x.1,
)

-- at one node kind 2 comes before kind 3
kinds_ahead : (n : ℕ) (a b d e : Codes) → Ahead (SharedAt n 2 a b) (SharedAt n 3 d e)
kinds_ahead n a b d e i k c j l f x y = inr (x.0 ∙ sym y.0, let g = x.1 in let h = y.1 in omega arith)

pub clash_sequence : (i : ℕ) (l r : PartSets) (begins : Codes) (two own : Option Clash)
    → Exactly begins (λ c. So l.null × Contains r.first c)
    → Lowest (SharedAt i 2 l.first begins) two
    → MatchOption two (Lowest (SharedAt i 3 l.after r.first) own) (λ x. own ≡ Some x)
    → Clashes sequence i l r own
unfolding Clashes
clash_sequence i l r begins two own hb n2 o p q x y =
    lowest_same _ (OwnAt i (sequence p q)) (sequence_own i p q l.first r.first l.after begins x.firsts y.firsts x.afters (begun begins hb x y)) own
    (lowest_or_else _ _ (kinds_ahead i l.first begins l.after r.first) two own n2 o)

-- ---- a repeat

repeat_own : (i : ℕ) (b : Expr) (lower : ℕ) (upper : Upper) (a follows : Codes) → Exactly a (After b)
    → Exactly follows (λ c. Within 2 upper × First b c) → Same (SharedAt i 4 a follows) (OwnAt i (repeat b lower upper))
repeat_own i b lower upper a follows p q j k c = (
  λ x. (x.0, (x.1, ((q c).0 x.2.1).0, (p c).0 x.2.0, ((q c).0 x.2.1).1)),
  λ x. (x.0, x.1.0, ((p c).1 x.1.2, (q c).1 (x.1.1, x.1.3))),
)

pub clash_repeat : (i lower most : ℕ) (b : PartSets) (bounds : Bounds) (again : Bool) (follows : Codes) (own : Option Clash)
    → Normal (low b.null lower) (bound most) bounds
    → Decides (Within 2 (upper bounds)) again
    → Exactly follows (λ c. So again × Contains b.first c)
    → Lowest (SharedAt i 4 b.after follows) own
    → ClashesOver i most b own
unfolding ClashesOver
clash_repeat i lower most b bounds again follows own normal hagain hg n e least x =
    let twice : So again ↔ Within 2 (bound most) = decides_so _ again (subst (λ (u : Upper). Decides (Within 2 u) again) normal.most hagain) in
    let comes : Exactly follows (λ c. Within 2 (bound most) × First e c) = λ c. Iff.trans (hg c) (Iff.and twice (x.firsts c)) in
    lowest_same _ (OwnAt i (repeat e least (bound most))) (repeat_own i e least (bound most) b.after follows x.afters comes) own n
