-- What the repeat at a node takes, block after block: the laws of a stay at the nodes of a file. Assumes nothing.
use mathlib.Core.Path.{◌≡◌, refl, sym, ap, subst, ◌∙◌}
use mathlib.Core.Bool.{Bool, true, false}
use mathlib.Core.List.{List, ◌∷◌, ◌++◌, map}
use Prim.Native.Nat.{ℕ, ◌+◌, ◌-◌, ◌≤◌, ◌<◌}
use native.Mathlib.Numerals.{add-one}
use native.Mathlib.Omega.{arith}
use lib.ListN.{length, drop, length-drop}
use Rattle.std.specs.Prelude.{Option, Some, None}
use Rattle.std.specs.Bool.{then_some}
use Rattle.std.specs.List.{slice_get}
use Rattle.meaning.specs.Expr.{Expr, root, Upper, Within}
use Rattle.meaning.specs.Lists.{Times}
use Rattle.meaning.specs.Node.{Node, Stands, bound}
use Rattle.meaning.specs.Normal.{nullable, low}
use Rattle.meaning.specs.Reading.{Item, Reading, Block, codes}
use Rattle.meaning.specs.Record.{item_number}
use Rattle.procedure.specs.Bounds.{Normal, upper}
use Rattle.procedure.specs.declared.bounds.Bounds.{Bounds}
use Rattle.procedure.specs.Entry.{kind_of, lower_of, upper_of}
use Rattle.procedure.specs.Listing.{NullAt}
use Rattle.procedure.specs.Tests.{Decides}
use Rattle.record.specs.Walk.{from, Eats, remainder_of, EatsAt}
use Rattle.record.proofs.Blocks.{Stay, stay_none, stay_more, stay_broken, stay_ended, stay_off, no_body, no_closing, no_event}
use Rattle.record.proofs.Bytes.{item_there, begins_with}
use Rattle.meaning.proofs.Expressions.ReadingHeads.{reading_long}
use Rattle.procedure.proofs.Standing.{at_repeat}

-- k blocks of the repeat at node i stand from `place` to `at`, and any blocks are these and more
unfoldable pub StayAt : (ℕ → Node) → List ℕ → ℕ → ℕ → ℕ → ℕ → ℕ → Type 0
StayAt g w s i place k at = (b : Expr) → Stands g s b → root s b ≡ i - 1 → Stay (Reading s b) s i (drop place w) k (drop at w)

pub stay_starts : (g : ℕ → Node) (w : List ℕ) (s i place : ℕ) → StayAt g w s i place 0 place
unfolding StayAt
stay_starts g w s i place = λ b p h. stay_none (Reading s b) s i (drop place w)

-- from other places other numbers are left
same_place : (w : List ℕ) (a b : ℕ) → a ≤ length w → b ≤ length w → drop a w ≡ drop b w → a ≡ b
same_place w a b ha hb e =
    let l : length (drop a w) ≡ length (drop b w) = ap length e in
    omega (arith, length-drop a w, length-drop b w)

-- a repeat stands at node i, and its part begins at node s
pub record RepeatPart (g : ℕ → Node) (s i : ℕ) : Type 0 where
  pub first : s ≤ i
  pub some : 1 ≤ i
  pub small : i < 512
  pub repeats : kind_of (g i) ≡ 4

module _ {g : ℕ → Node} {s i : ℕ} (w : List ℕ) (place k at : ℕ) (this : RepeatPart g s i) (stay : StayAt g w s i place k at) where
  -- the readings of the repeat whose body is b
  abbrev RepeatOf : Expr → List Item → Type 0
  RepeatOf b = Times (Block (Reading s b) i) (low (nullable b) (lower_of (g i))) (bound (upper_of (g i)))

  repeat_eats : (r : Option ℕ) → ((b : Expr) → Stands g s b → root s b ≡ i - 1 → Eats (RepeatOf b) s i (drop place w) (remainder_of w r))
      → EatsAt g w s i place r
  unfolding EatsAt
  repeat_eats r a =
      at_repeat g s i (kind_of (g i)) refl (λ x. Eats (Reading s x) s i (drop place w) (remainder_of w r)) this.repeats
      (λ b p h q.
      subst (λ (j : ℕ). Eats (Times (Block (Reading s b) j) (low (nullable b) (lower_of (g i))) (bound (upper_of (g i)))) s i (drop place w) (remainder_of w r))
      (sym q) (a b p h))

  -- at an opening
  module _ (opens : slice_get w at ≡ Some (i + 4096)) where
    stay_open : (b : Expr) → Stands g s b → root s b ≡ i - 1 → Stay (Reading s b) s i (drop place w) k ((i + 4096) ∷ drop (at + 1) w)
    unfolding StayAt
    stay_open b p h = subst (Stay (Reading s b) s i (drop place w) k) (item_there w at (i + 4096) opens).1 (stay b p h)

    pub stay_goes : (next : ℕ) → next ≤ length w → EatsAt g w s (i - 1) (at + 1) (Some next) → ¬ (next ≡ at + 1)
        → slice_get w next ≡ Some (i + 8192) → StayAt g w s i place (k + 1) (next + 1)
    unfolding StayAt EatsAt
    stay_goes next l a other closes = λ b p h.
        let there = item_there w next (i + 8192) closes in
        let here = item_there w at (i + 4096) opens in
        let goes = a b p h in
        let moved : ¬ (drop (at + 1) w ≡ (i + 8192) ∷ drop (next + 1) w) =
        λ q. other (sym (same_place w (at + 1) next (omega (arith, here.0)) l (q ∙ sym there.1))) in
        subst (λ (j : ℕ). Stay (Reading s b) s i (drop place w) j (drop (next + 1) w)) (sym (add-one k))
        (stay_more (Reading s b) s (i - 1) i (omega arith) this.first (omega arith) (drop place w) k (drop (at + 1) w) (drop (next + 1) w)
        (stay_open b p h) (reading_long s b) moved
        (subst (λ (v : List ℕ). Eats (Reading s b) s (i - 1) (drop (at + 1) w) (from v)) there.1 goes))

    broken : ((b : Expr) → Stands g s b → root s b ≡ i - 1 → (x : List Item) (t : List ℕ) → Reading s b x → 1 ≤ length (codes x)
        → drop (at + 1) w ≡ map item_number x ++ ((i + 8192) ∷ t) → ⊥)
        → EatsAt g w s i place None
    broken bad = repeat_eats None
        (λ b p h. stay_broken (Reading s b) s (i - 1) i (omega arith) this.first (omega arith) (drop place w) k
        (low (nullable b) (lower_of (g i))) (bound (upper_of (g i))) (drop (at + 1) w) (stay_open b p h) (bad b p h))

    pub stuck_body : EatsAt g w s (i - 1) (at + 1) None → EatsAt g w s i place None
    unfolding EatsAt
    stuck_body a = broken (λ b p h. no_body (Reading s b) s (i - 1) i (omega arith) (omega arith) (drop (at + 1) w) (a b p h))

    pub stuck_event : (next : ℕ) → next ≡ at + 1 → EatsAt g w s (i - 1) (at + 1) (Some next) → EatsAt g w s i place None
    unfolding EatsAt
    stuck_event next same a = broken
        (λ b p h. no_event (Reading s b) s (i - 1) i (omega arith) (omega arith) (drop (at + 1) w)
        (subst (λ (j : ℕ). Eats (Reading s b) s (i - 1) (drop (at + 1) w) (from (drop j w))) same (a b p h)))

    pub stuck_closing : (next : ℕ) → EatsAt g w s (i - 1) (at + 1) (Some next) → ¬ (slice_get w next ≡ Some (i + 8192)) → EatsAt g w s i place None
    unfolding EatsAt
    stuck_closing next a other = broken
        (λ b p h. no_closing (Reading s b) s (i - 1) i (omega arith) (omega arith) (drop (at + 1) w) (drop next w) (a b p h)
        (λ t q. other (begins_with w next (i + 8192) t q)))

  -- no opening follows
  ended : (null may : Bool) → NullAt g (i - 1) null → ¬ (slice_get w at ≡ Some (i + 4096))
      → Decides ((low null (lower_of (g i)) ≤ k) × Within k (bound (upper_of (g i)))) may → EatsAt g w s i place (then_some may at)
  unfolding StayAt NullAt
  ended null true known other d = repeat_eats (Some at)
      (λ b p h.
      stay_ended (Reading s b) s (i - 1) i (omega arith) this.first (omega arith) (drop place w) k
      (low (nullable b) (lower_of (g i))) (bound (upper_of (g i))) (drop at w) (stay b p h) (λ u q. other (begins_with w at (i + 4096) u q))
      (subst (λ (x : Bool). low x (lower_of (g i)) ≤ k) (known s b p h) d.0) d.1)
  ended null false known other d = repeat_eats None
      (λ b p h.
      stay_off (Reading s b) s (i - 1) i (omega arith) this.first (omega arith) (drop place w) k
      (low (nullable b) (lower_of (g i))) (bound (upper_of (g i))) (drop at w) (stay b p h) (λ u q. other (begins_with w at (i + 4096) u q))
      (λ q. d (subst (λ (x : Bool). low x (lower_of (g i)) ≤ k) (sym (known s b p h)) q.0, q.1)))

  -- by the bounds in normal form
  pub stay_stops : (null may : Bool) (b : Bounds) → NullAt g (i - 1) null → Normal (low null (lower_of (g i))) (bound (upper_of (g i))) b
      → ¬ (slice_get w at ≡ Some (i + 4096)) → Decides ((b.least ≤ k) × Within k (upper b)) may → EatsAt g w s i place (then_some may at)
  stay_stops null may b known normal other d =
      ended null may known other
      (subst (λ (n : ℕ). Decides ((n ≤ k) × Within k (bound (upper_of (g i)))) may) normal.least
      (subst (λ (u : Upper). Decides ((b.least ≤ k) × Within k u) may) normal.most d))
