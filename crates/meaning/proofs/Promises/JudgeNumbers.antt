-- What Judge's numbers say of a file: 0 exactly if it is well-formed, has at most 32 repeats and its expression is strongly
-- deterministic; 7 exactly if it is well-formed, has at most 32 repeats and its expression is not, and then with the lowest conflict and
-- all the codes that it shares, of which there is at least one; and with every other answer nothing is told of a conflict. Assumes nothing.
use Rattle.std.specs.Prelude.{Err}
use mathlib.Core.Logic.Iff
use mathlib.Core.Logic.{◌↔◌}
use mathlib.Core.List.{List}
use mathlib.Core.Path.{◌≡◌, refl, ap, subst, sym, ◌∙◌}
use Prim.Native.Nat.{ℕ, ◌≤◌, ◌<◌}
use native.Mathlib.Omega.{arith}
use Rattle.meaning.specs.declared.Refusal.{Refusal}
use Rattle.meaning.specs.declared.Refusal.TheVariants.{Size, Letters, Measures, Record, Order, Repeats, Conflict, Unreached, Length, Incomplete, Room}
use Rattle.meaning.specs.Answers.{JudgeAnswer, words}
use Rattle.meaning.specs.Conflict.{LowestConflict, SharedCodes, kind_number}
use Rattle.meaning.specs.Codes.{Has, in_words}
use Rattle.meaning.specs.Properties.{Least}
use Rattle.meaning.specs.Expr.{Expr}
use Rattle.meaning.specs.File.{WellFormed, Holds, Barred, Refused, by_size, by_letters, by_measures, by_record, by_order, by_root, by_repeats, malformed, conflicting, count, node_at}
use Rattle.meaning.specs.Node.{repeats_below}
use Rattle.meaning.specs.Numbers.{JudgeNumbers, judged, plain, row, judge_numbers}
use Rattle.meaning.specs.Promises.{Judges, JudgePromise}
use Rattle.meaning.specs.Strong.{StronglyDeterministic}
use Rattle.meaning.proofs.General.Properties.{count_most, count_some, least_same}
use Rattle.meaning.proofs.File.EventNodes.{code_small, conflict_code}
use Rattle.meaning.proofs.File.Files.{holds_bounded}
use Rattle.meaning.proofs.Determinism.Lowest.{lowest_iff_not_strong}
use Rattle.meaning.proofs.File.Refusals.{conflict_kind, kind_of_number, holds_unique, holds_not_refused, admitted_not_barred, barred_node_small, barred_unique}

-- the file is well-formed with the expression, and has at most 32 repeats
abbrev pub FewRepeats : List ℕ → Expr → Type 0
FewRepeats f e = WellFormed f e × (repeats_below (node_at f) (count f) ≤ 32)

few_held : {f : List ℕ} {e : Expr} → FewRepeats f e → Holds f e
few_held p = record { formed = p.0; few = p.1 }

held_few : {f : List ℕ} {e : Expr} → Holds f e → FewRepeats f e
held_few h = (h.formed, h.few)

-- ---- the numbers of refusals

-- the node of a refusal is one of the file's, of which there are at most 512
pub refused_node : (f : List ℕ) {a : JudgeAnswer} {r : Refusal} → Judges f a → a ≡ Err r → (row r).node < 512
refused_node f (Judges.refused r b) told = omega (arith, barred_node_small f r b, ap (λ (x : JudgeAnswer). (judge_numbers x).node) told)
refused_node f (Judges.admitted e d) told = let z : ◌≡◌ {A = ℕ} 0 1 = cc in absurd (omega arith)

some_number : (r : Refusal) → 1 ≤ (row r).answer
some_number Size = omega arith
some_number Letters = omega arith
some_number Measures = omega arith
some_number (Record i) = omega arith
some_number (Order i) = omega arith
some_number (Repeats i) = omega arith
some_number (Conflict i k c w n) = omega arith
some_number Unreached = omega arith
some_number Length = omega arith
some_number Incomplete = omega arith
some_number Room = omega arith

below_seven : {f : List ℕ} {r : Refusal} → Refused f r → (row r).answer < 7
below_seven (by_size n) = omega arith
below_seven (by_letters s n) = omega arith
below_seven (by_measures s l n) = omega arith
below_seven (by_record i p l t n) = omega arith
below_seven (by_order i p t l o n) = omega arith
below_seven (by_root i p t o n l) = omega arith
below_seven (by_repeats e i w l m n) = omega arith

-- nothing is told of a conflict
pub refused_plain : {f : List ℕ} {r : Refusal} → Refused f r → row r ≡ plain (row r).answer (row r).node
refused_plain (by_size n) = refl
refused_plain (by_letters s n) = refl
refused_plain (by_measures s l n) = refl
refused_plain (by_record i p l t n) = refl
refused_plain (by_order i p t l o n) = refl
refused_plain (by_root i p t o n l) = refl
refused_plain (by_repeats e i w l m n) = refl

-- the code told is the lowest of the set, which has from 1 to 128 codes
pub record CodesTold (out : JudgeNumbers) : Type 0 where
  pub lowest : Least (Has (in_words out.low out.high)) out.code
  pub some : 1 ≤ out.count
  pub most : out.count ≤ 128

-- ---- of an answer

abbrev number_of : JudgeAnswer → ℕ
number_of a = (judge_numbers a).answer

zero_of : (f : List ℕ) (a : JudgeAnswer) → Judges f a → (number_of a ≡ 0) ↔ ((e : Expr) × FewRepeats f e × StronglyDeterministic e)
zero_of f a (Judges.admitted e p) = (λ h. (e, held_few p.holds, p.strong), λ x. refl)
zero_of f a (Judges.refused r p) = (
  λ h. absurd (omega (arith, some_number r)),
  λ x. absurd (admitted_not_barred f x.0 r (record { holds = few_held x.1; strong = x.2 }) p),
)

seven_of : (f : List ℕ) (a : JudgeAnswer) → Judges f a → (number_of a ≡ 7) ↔ ((e : Expr) × FewRepeats f e × ¬ StronglyDeterministic e)
seven_of f a (Judges.admitted e p) = (
  λ h. absurd (omega arith),
  λ x. absurd (x.2 (subst StronglyDeterministic (holds_unique f e x.0 p.holds (few_held x.1)) p.strong)),
)
seven_of f a (Judges.refused r (malformed p)) =
    (λ h. absurd (omega (arith, below_seven p)), λ x. absurd (holds_not_refused f x.0 r (few_held x.1) p))
seven_of f a (Judges.refused r (conflicting e i k c w n p l s)) =
    (λ h. (e, held_few p, (lowest_iff_not_strong e (holds_bounded p)).0 (i, kind_number k, c, l)), λ x. refl)

-- the lowest conflict of the file's expression, and all the codes that it shares
abbrev Told : List ℕ → ℕ → ℕ → ℕ → ℕ → ℕ → ℕ → Type 0
Told f i k c l h n = (e : Expr) × FewRepeats f e × (LowestConflict e i k c × SharedCodes e i k l h n)

-- the refusal that tells of it
abbrev refusal_with : ℕ → ℕ → ℕ → ℕ → ℕ → ℕ → Refusal
refusal_with i k c l h n = Conflict i (kind_of_number k) c (words l h) n

told_kind : (f : List ℕ) (i k c l h n : ℕ) → Told f i k c l h n → kind_number (kind_of_number k) ≡ k
told_kind f i k c l h n x = let q = x.2.0.code.holds in conflict_kind q.0 k c q.2

barred_told : (f : List ℕ) (i k c l h n : ℕ) → Told f i k c l h n → Barred f (refusal_with i k c l h n)
barred_told f i k c l h n x =
    let same = told_kind f i k c l h n x in
    conflicting x.0 i (kind_of_number k) c (words l h) n (few_held x.1)
    (subst (λ (m : ℕ). LowestConflict x.0 i m c) (sym same) x.2.0)
    (subst (λ (m : ℕ). SharedCodes x.0 i m l h n) (sym same) x.2.1)

lowest_of : (f : List ℕ) (a : JudgeAnswer) (i k c l h n : ℕ) → Judges f a → (judge_numbers a ≡ judged 7 i k c l h n) ↔ Told f i k c l h n
lowest_of f a i k c l h n (Judges.admitted e p) = (
  λ s. absurd (omega (arith, ap (λ (x : JudgeNumbers). x.answer) s)),
  λ x. absurd (admitted_not_barred f e (refusal_with i k c l h n) p (barred_told f i k c l h n x)),
)
lowest_of f a i k c l h n (Judges.refused r (malformed p)) = (
  λ s. absurd (omega (arith, below_seven p, ap (λ (x : JudgeNumbers). x.answer) s)),
  λ x. absurd (holds_not_refused f x.0 r (few_held x.1) p),
)
lowest_of f a i k c l h n (Judges.refused r (conflicting e i' k' c' w n' p o z)) = (
  λ s. (e, held_few p, subst (λ (x : JudgeNumbers). LowestConflict e x.node x.kind x.code × SharedCodes e x.node x.kind x.low x.high x.count) s (o, z)),
  λ x.
      ap row (barred_unique f (Conflict i' k' c' w n') (refusal_with i k c l h n) (conflicting e i' k' c' w n' p o z) (barred_told f i k c l h n x))
      ∙ ap (λ (m : ℕ). judged 7 i m c l h n) (told_kind f i k c l h n x),
)

-- an answer other than 7 tells of no conflict
plain_of : (f : List ℕ) (a : JudgeAnswer) → Judges f a → ¬ (number_of a ≡ 7) → judge_numbers a ≡ plain (number_of a) (judge_numbers a).node
plain_of f a (Judges.admitted e p) other = refl
plain_of f a (Judges.refused r (malformed p)) other = refused_plain p
plain_of f a (Judges.refused r (conflicting e i k c w n p o s)) other = absurd (other refl)

codes_of : (f : List ℕ) (a : JudgeAnswer) → Judges f a → number_of a ≡ 7 → CodesTold (judge_numbers a)
codes_of f a (Judges.admitted e p) seven = absurd (omega arith)
codes_of f a (Judges.refused r (malformed p)) seven = absurd (omega (arith, below_seven p))
codes_of f a (Judges.refused r (conflicting e i k c w n p o s)) seven =
    let lowest = least_same (λ d. Iff.symm (s.set.codes d)) o.code in
    let q = conflict_code e i (kind_number k) c o.code.holds in
    record {
      lowest = lowest;
      some = count_some c (omega (arith, code_small f e q.0 c p q.1)) lowest.holds s.count;
      most = count_most s.count;
    }

-- ---- of the numbers that Judge promises

pub zero_iff_strong : (f : List ℕ) (out : JudgeNumbers) → JudgePromise f out
    → (out.answer ≡ 0) ↔ ((e : Expr) × FewRepeats f e × StronglyDeterministic e)
unfolding JudgePromise
zero_iff_strong f out p = rw p.2 (zero_of f p.0 p.1)

pub seven_iff_not_strong : (f : List ℕ) (out : JudgeNumbers) → JudgePromise f out
    → (out.answer ≡ 7) ↔ ((e : Expr) × FewRepeats f e × ¬ StronglyDeterministic e)
unfolding JudgePromise
seven_iff_not_strong f out p = rw p.2 (seven_of f p.0 p.1)

pub seven_iff_lowest : (f : List ℕ) (out : JudgeNumbers) (i k c l h n : ℕ) → JudgePromise f out
    → (out ≡ judged 7 i k c l h n) ↔ ((e : Expr) × FewRepeats f e × (LowestConflict e i k c × SharedCodes e i k l h n))
unfolding JudgePromise
seven_iff_lowest f out i k c l h n p = rw p.2 (lowest_of f p.0 i k c l h n p.1)

-- with every other answer set and count are 0, and so are kind and code
pub other_no_conflict : (f : List ℕ) (out : JudgeNumbers) → JudgePromise f out → ¬ (out.answer ≡ 7) → out ≡ plain out.answer out.node
unfolding JudgePromise
other_no_conflict f out p = rw p.2 (plain_of f p.0 p.1)

pub seven_codes : (f : List ℕ) (out : JudgeNumbers) → JudgePromise f out → out.answer ≡ 7 → CodesTold out
unfolding JudgePromise
seven_codes f out p = rw p.2 (codes_of f p.0 p.1)
