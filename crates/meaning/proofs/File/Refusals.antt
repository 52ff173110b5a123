-- A file is refused in one way, or lists one expression and is not refused.
use mathlib.Core.Path.{◌≡◌, refl, sym, ap, ap₂, ◌∙◌, subst, subst₃}
use mathlib.Core.List.{List}
use mathlib.Core.Logic.{inl, inr}
use Prim.Native.Nat.{ℕ, zero, suc, ◌+◌, ◌-◌, ◌≤◌, ◌<◌, zero-le}
use native.Mathlib.Omega.{arith}
use native.Mathlib.Decide.{dec_lt}
use native.Mathlib.Nat.{zero-add, suc-add, le_refl}
use Rattle.meaning.specs.declared.Refusal.{Refusal}
use Rattle.meaning.specs.declared.Refusal.TheVariants.{Size, Letters, Measures, Record, Order, Repeats, Conflict}
use Rattle.meaning.specs.Expr.{Expr, empty, event, choice, sequence, repeat, root, size}
use Rattle.meaning.specs.Node.{Node, InTable, InOrder, Stands, repeats_below}
use Rattle.meaning.specs.declared.ConflictKind.{ConflictKind}
use Rattle.meaning.specs.declared.ConflictKind.TheVariants as kinds
use Rattle.meaning.specs.Answers.{words}
use Rattle.meaning.specs.Conflict as conflict
use Rattle.meaning.specs.Conflict.{LowestConflict, SharedCodes, kind_number}
use Rattle.meaning.specs.File.{Sized, Lettered, Measured, TableBelow, OrderBelow, Lists, WellFormed, Refused, by_size, by_letters, by_measures, by_record, by_order, by_root, by_repeats, Holds, Barred, malformed, conflicting, Admitted, count, node_at}
use Rattle.meaning.specs.Numbers.{row}
use Rattle.meaning.proofs.Expressions.Parts.{part_within, root-size}
use Rattle.meaning.proofs.File.Files.{stands_unique, holds_bounded}
use Rattle.meaning.proofs.Determinism.Diverge.{strong_no_conflict}
use Rattle.meaning.proofs.Determinism.Lowest.{lowest_unique, shared_unique}

-- the tests 1, 2, 3, 4, 5 (order), 5 (root) and 6, in turn
abbrev Test : List ℕ → ℕ → Type 0
Test f zero = Sized f
Test f (suc zero) = Lettered f
Test f (suc (suc zero)) = Measured f
Test f (suc (suc (suc zero))) = TableBelow f (count f)
Test f (suc (suc (suc (suc zero)))) = OrderBelow f (count f)
Test f (suc (suc (suc (suc (suc zero))))) = (e : Expr) × Lists f e
Test f (suc (suc (suc (suc (suc (suc k)))))) = repeats_below (node_at f) (count f) ≤ 32

-- the tests before the k-th hold
abbrev Passed : List ℕ → ℕ → Type 0
Passed f zero = Unit {0}
Passed f (suc k) = Passed f k × Test f k

passed_test : (f : List ℕ) (j k : ℕ) → j < k → Passed f k → Test f j
passed_test f j zero l p = absurd (omega arith)
passed_test f j (suc k) l p = split (λ m. passed_test f j k m p.0) (dec_lt j k)
  where
    split : (j < k → Test f j) → Dec (j < k) → Test f j
    split before (yes m) = before m
    split before (no m) = let e : k ≡ j = omega arith in subst (λ (n : ℕ). Test f n) e p.1

-- the node that goes with the k-th test's failure
abbrev Reports : List ℕ → ℕ → ℕ → Type 0
Reports f zero i = i ≡ 0
Reports f (suc zero) i = i ≡ 0
Reports f (suc (suc zero)) i = i ≡ 0
Reports f (suc (suc (suc zero))) i = TableBelow f i × ¬ InTable (node_at f i)
Reports f (suc (suc (suc (suc zero)))) i = OrderBelow f i × ¬ InOrder (node_at f) i
Reports f (suc (suc (suc (suc (suc zero))))) i = suc i ≡ count f
Reports f (suc (suc (suc (suc (suc (suc k)))))) i = (repeats_below (node_at f) i ≡ 32) × (repeats_below (node_at f) (suc i) ≡ 33)

abbrev refusal_at : ℕ → ℕ → Refusal
refusal_at zero i = Size
refusal_at (suc zero) i = Letters
refusal_at (suc (suc zero)) i = Measures
refusal_at (suc (suc (suc zero))) i = Record i
refusal_at (suc (suc (suc (suc zero)))) i = Order i
refusal_at (suc (suc (suc (suc (suc zero))))) i = Order i
refusal_at (suc (suc (suc (suc (suc (suc k)))))) i = Repeats i

-- a refusal as the first test that fails
record FirstFailure (f : List ℕ) (r : Refusal) : Type 0 where
  stage : ℕ
  at : ℕ
  passed : Passed f stage
  fails : ¬ Test f stage
  reports : Reports f stage at
  is : r ≡ refusal_at stage at

-- of two numbers neither of which is less
neither_less : (i j : ℕ) → ¬ (i < j) → ¬ (j < i) → i ≡ j
neither_less i j a b = omega arith

-- the lowest node of which something fails is one
lowest_one : {P : ℕ → Type 0} {i j : ℕ} → ((k : ℕ) → k < i → P k) → ¬ P i → ((k : ℕ) → k < j → P k) → ¬ P j → i ≡ j
lowest_one {i = i} {j = j} below-i not-i below-j not-j = neither_less i j (λ l. not-i (below-j i l)) (λ l. not-j (below-i j l))

-- repeats are counted upwards
repeats_rise : (g : ℕ → Node) (i k : ℕ) → repeats_below g i ≤ repeats_below g (k + i)
repeats_rise g i zero = rw zero-add (le_refl (repeats_below g i))
repeats_rise g i (suc k) = rw suc-add (omega (arith, repeats_rise g i k))

repeats_mono : (g : ℕ → Node) (i j : ℕ) → i ≤ j → repeats_below g i ≤ repeats_below g j
repeats_mono g i j l = let e : (j - i) + i ≡ j = omega arith in subst (λ (n : ℕ). repeats_below g i ≤ repeats_below g n) e (repeats_rise g i (j - i))

-- the 33rd repeat is one
repeat_one : (g : ℕ → Node) (i j : ℕ) → repeats_below g i ≡ 32 → repeats_below g (suc i) ≡ 33 → repeats_below g j ≡ 32 → repeats_below g (suc j) ≡ 33 → i ≡ j
repeat_one g i j a b c d =
    neither_less i j (λ l. omega (arith, repeats_mono g (suc i) j l)) (λ l. omega (arith, repeats_mono g (suc j) i l))

reports_one : (f : List ℕ) (k i j : ℕ) → Reports f k i → Reports f k j → i ≡ j
reports_one f zero i j a b = cc
reports_one f (suc zero) i j a b = cc
reports_one f (suc (suc zero)) i j a b = cc
reports_one f (suc (suc (suc zero))) i j a b = lowest_one {P = λ k. InTable (node_at f k)} a.0 a.1 b.0 b.1
reports_one f (suc (suc (suc (suc zero)))) i j a b = lowest_one {P = λ k. InOrder (node_at f) k} a.0 a.1 b.0 b.1
reports_one f (suc (suc (suc (suc (suc zero))))) i j a b = omega arith
reports_one f (suc (suc (suc (suc (suc (suc k)))))) i j a b = repeat_one (node_at f) i j a.0 a.1 b.0 b.1

stage_one : (f : List ℕ) (j k : ℕ) → Passed f j → ¬ Test f j → Passed f k → ¬ Test f k → j ≡ k
stage_one f j k a b c d = neither_less j k (λ l. b (passed_test f j k l c)) (λ l. d (passed_test f k j l a))

-- every node of two parts and the node above them is in order if each is
pair_in_order : (g : ℕ → Node) (s l r : ℕ) → InOrder g (s + l + r) → ((j : ℕ) → s ≤ j → j < s + l → InOrder g j)
    → ((j : ℕ) → s + l ≤ j → j < s + l + r → InOrder g j) → (j : ℕ) → s ≤ j → j < s + (l + r + 1) → InOrder g j
pair_in_order g s l r whole left right j a b = split (dec_lt j (s + l)) (dec_lt j (s + l + r))
  where
    split : Dec (j < s + l) → Dec (j < s + l + r) → InOrder g j
    split (yes m) d = left j a m
    split (no m) (yes n) = right j (omega arith) n
    split (no m) (no n) = let e : s + l + r ≡ j = omega arith in subst (InOrder g) e whole

-- every node of a standing part is in order
stands_in_order : (g : ℕ → Node) (s : ℕ) (e : Expr) → Stands g s e → (j : ℕ) → s ≤ j → j < s + size e → InOrder g j
stands_in_order g s empty h j a b = (s, empty, h, omega arith)
stands_in_order g s (event c) h j a b = (s, event c, h, omega arith)
stands_in_order g s (choice l r) h j a b =
    pair_in_order g s (size l) (size r) (s, choice l r, h, refl) (λ i. stands_in_order g s l h.0 i) (λ i. stands_in_order g (s + size l) r h.1 i) j a b
stands_in_order g s (sequence l r) h j a b =
    pair_in_order g s (size l) (size r) (s, sequence l r, h, refl) (λ i. stands_in_order g s l h.0 i) (λ i. stands_in_order g (s + size l) r h.1 i) j a b
stands_in_order g s (repeat b lower upper) h j a c = split (stands_in_order g s b h.0 j a) (dec_lt j (s + size b))
  where
    split : (j < s + size b → InOrder g j) → Dec (j < s + size b) → InOrder g j
    split below (yes m) = below m
    split below (no m) =
        let e : s + size b ≡ j = omega arith in
        let whole : InOrder g (s + size b) = (s, repeat b lower upper, h, refl) in
        subst (InOrder g) e whole

-- the tests up to the root's hold of a well-formed file
formed_passed : (f : List ℕ) (e : Expr) → WellFormed f e → Passed f (suc (suc (suc (suc (suc (suc zero))))))
formed_passed f e w =
    let framed = w.framed in
    let ordered : OrderBelow f (count f) = λ j l. stands_in_order (node_at f) 0 e w.lists.0 j zero-le (omega (arith, w.lists.1, zero-add (size e))) in
    ((((((tt, framed.0), framed.1), framed.2), w.table), ordered), (e, w.lists))

-- a refusal is the first test that fails
first_failure : (f : List ℕ) (r : Refusal) → Refused f r → FirstFailure f r
first_failure f r (by_size n) = record { stage = 0; at = 0; passed = tt; fails = n; reports = refl; is = refl }
first_failure f r (by_letters s n) = record { stage = 1; at = 0; passed = (tt, s); fails = n; reports = refl; is = refl }
first_failure f r (by_measures s l n) = record { stage = 2; at = 0; passed = ((tt, s), l); fails = n; reports = refl; is = refl }
first_failure f r (by_record i fr l below n) =
    record {
      stage = 3;
      at = i;
      passed = (((tt, fr.0), fr.1), fr.2);
      fails = λ t. n (t i l);
      reports = (below, n);
      is = refl;
    }
first_failure f r (by_order i fr table l below n) =
    record {
      stage = 4;
      at = i;
      passed = ((((tt, fr.0), fr.1), fr.2), table);
      fails = λ t. n (t i l);
      reports = (below, n);
      is = refl;
    }
first_failure f r (by_root i fr table order n l) =
    record {
      stage = 5;
      at = i;
      passed = (((((tt, fr.0), fr.1), fr.2), table), order);
      fails = λ t. n t.0 t.1;
      reports = l;
      is = refl;
    }
first_failure f r (by_repeats e i w l a b) =
    record {
      stage = 6;
      at = i;
      passed = formed_passed f e w;
      fails = λ t. omega (arith, repeats_mono (node_at f) (suc i) (count f) l);
      reports = (a, b);
      is = refl;
    }

-- a file is refused in one way
pub refused_unique : (f : List ℕ) (r q : Refusal) → Refused f r → Refused f q → r ≡ q
refused_unique f r q a b =
    let x = first_failure f r a in
    let y = first_failure f q b in
    let k = stage_one f x.stage y.stage x.passed x.fails y.passed y.fails in
    let i = reports_one f y.stage x.at y.at (subst (λ (n : ℕ). Reports f n x.at) k x.reports) y.reports in
    x.is ∙ ap₂ refusal_at k i ∙ sym y.is

-- a file lists one expression
pub lists_unique : (f : List ℕ) (e d : Expr) → Lists f e → Lists f d → e ≡ d
lists_unique f e d a b =
    let same : root 0 e ≡ root 0 d = omega (arith, root-size 0 e, root-size 0 d, a.1, b.1) in
    (stands_unique (node_at f) 0 0 e d a.0 b.0 same).1

pub holds_unique : (f : List ℕ) (e d : Expr) → Holds f e → Holds f d → e ≡ d
holds_unique f e d a b = lists_unique f e d a.formed.lists b.formed.lists

-- a file that holds an expression is not refused with 1 to 6
pub holds_not_refused : (f : List ℕ) (e : Expr) (r : Refusal) → Holds f e → ¬ Refused f r
holds_not_refused f e r h a =
    let x = first_failure f r a in
    let all : Passed f (suc (suc (suc (suc (suc (suc (suc zero))))))) = (formed_passed f e h.formed, h.few) in
    let past = x.fails in
    absurd (past (held x.stage all))
  where
    held : (k : ℕ) → Passed f (suc (suc (suc (suc (suc (suc (suc zero))))))) → Test f k
    held zero p = passed_test f 0 7 (omega arith) p
    held (suc zero) p = passed_test f 1 7 (omega arith) p
    held (suc (suc zero)) p = passed_test f 2 7 (omega arith) p
    held (suc (suc (suc zero))) p = passed_test f 3 7 (omega arith) p
    held (suc (suc (suc (suc zero)))) p = passed_test f 4 7 (omega arith) p
    held (suc (suc (suc (suc (suc zero))))) p = passed_test f 5 7 (omega arith) p
    held (suc (suc (suc (suc (suc (suc k)))))) p = p.1

-- the kind with the number
pub kind_of_number : ℕ → ConflictKind
kind_of_number zero = kinds.Choice
kind_of_number (suc zero) = kinds.Choice
kind_of_number (suc (suc zero)) = kinds.EmptyLeft
kind_of_number (suc (suc (suc zero))) = kinds.AfterLeft
kind_of_number (suc (suc (suc (suc k)))) = kinds.Repeat

numbered : (k : ConflictKind) → kind_of_number (kind_number k) ≡ k
unfolding kind_of_number
numbered kinds.Choice = refl
numbered kinds.EmptyLeft = refl
numbered kinds.AfterLeft = refl
numbered kinds.Repeat = refl

-- a number is of one kind
same_kind : (k l : ConflictKind) → kind_number k ≡ kind_number l → k ≡ l
same_kind k l e = sym (numbered k) ∙ ap kind_of_number e ∙ numbered l

-- the number of a conflict's kind is of a kind
pub conflict_kind : (e : Expr) (k c : ℕ) → conflict.Conflict e k c → kind_number (kind_of_number k) ≡ k
unfolding kind_of_number
conflict_kind empty k c p = absurd p
conflict_kind (event d) k c p = absurd p
conflict_kind (choice l r) k c p = subst (λ (m : ℕ). kind_number (kind_of_number m) ≡ m) (sym p.0) refl
conflict_kind (sequence l r) k c (inl p) = subst (λ (m : ℕ). kind_number (kind_of_number m) ≡ m) (sym p.0) refl
conflict_kind (sequence l r) k c (inr p) = subst (λ (m : ℕ). kind_number (kind_of_number m) ≡ m) (sym p.0) refl
conflict_kind (repeat b lower upper) k c p = subst (λ (m : ℕ). kind_number (kind_of_number m) ≡ m) (sym p.0) refl

-- a file that holds an expression without a conflict is not refused with 1 to 7
pub admitted_not_barred : (f : List ℕ) (e : Expr) (r : Refusal) → Admitted f e → ¬ Barred f r
admitted_not_barred f e r a (malformed b) = holds_not_refused f e r a.holds b
admitted_not_barred f e r a (conflicting d i k c w n h l s) =
    let same = holds_unique f d e h a.holds in
    let bounded = holds_bounded a.holds in
    strong_no_conflict e bounded a.strong i (kind_number k) c (subst (λ (x : Expr). LowestConflict x i (kind_number k) c) same l).code.holds

-- a file is refused with 1 to 7 in one way
pub barred_unique : (f : List ℕ) (r q : Refusal) → Barred f r → Barred f q → r ≡ q
barred_unique f r q (malformed a) (malformed b) = refused_unique f r q a b
barred_unique f r q (malformed a) (conflicting e i k c w n h l s) = absurd (holds_not_refused f e r h a)
barred_unique f r q (conflicting e i k c w n h l s) (malformed b) = absurd (holds_not_refused f e q h b)
barred_unique f r q (conflicting e i k c w n h l s) (conflicting d j m b v o g p z) =
    let one = holds_unique f d e g h in
    let same = lowest_unique e i (kind_number k) c j (kind_number m) b l (subst (λ (x : Expr). LowestConflict x j (kind_number m) b) one p) in
    let there : SharedCodes e i (kind_number k) v.low v.high o =
    subst₃ (λ (x : Expr) (y u : ℕ). SharedCodes x y u v.low v.high o) one (sym same.0) (sym same.1) z in
    let codes = shared_unique s there in
    let kinds = same_kind k m same.1 in
    λ t. Conflict (same.0 t) (kinds t) (same.2 t) (words (codes.0 t) (codes.1 t)) (codes.2 t)

-- the node reported is one of the file's, of which there are at most 512
refused_node_small : (f : List ℕ) (r : Refusal) → Refused f r → (row r).node < 512
refused_node_small f r (by_size n) = omega arith
refused_node_small f r (by_letters s n) = omega arith
refused_node_small f r (by_measures s l n) = omega arith
refused_node_small f r (by_record i fr l below n) = omega (arith, fr.2.1)
refused_node_small f r (by_order i fr table l below n) = omega (arith, fr.2.1)
refused_node_small f r (by_root i fr table order n l) = omega (arith, fr.2.1)
refused_node_small f r (by_repeats e i w l a b) = omega (arith, w.framed.2.1)

pub barred_node_small : (f : List ℕ) (r : Refusal) → Barred f r → (row r).node < 512
barred_node_small f r (malformed b) = refused_node_small f r b
barred_node_small f r (conflicting e i k c w n h l s) =
    let there = l.code.holds in
    omega (arith, part_within 0 e i there.0 there.1, h.formed.lists.1, h.formed.framed.2.1, zero-add (size e))

-- a file is refused with one of 1 to 7
refused_number : (f : List ℕ) (r : Refusal) → Refused f r → (row r).answer ≤ 6
refused_number f r (by_size n) = omega arith
refused_number f r (by_letters s n) = omega arith
refused_number f r (by_measures s l n) = omega arith
refused_number f r (by_record i fr l below n) = omega arith
refused_number f r (by_order i fr table l below n) = omega arith
refused_number f r (by_root i fr table order n l) = omega arith
refused_number f r (by_repeats e i w l a b) = omega arith

pub barred_number : (f : List ℕ) (r : Refusal) → Barred f r → (row r).answer ≤ 7
barred_number f r (malformed b) = omega (arith, refused_number f r b)
barred_number f r (conflicting e i k c w n h l s) = omega arith
