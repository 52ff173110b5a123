-- Each of the five promises has at most one outcome, for every input.
use Rattle.std.specs.Prelude.{Ok, Err}
use mathlib.Core.Path.{◌≡◌, refl, sym, ap, ap₂, ◌∙◌, subst}
use mathlib.Core.List.{List, ◌++◌}
use Prim.Native.Nat.{ℕ, ◌≤◌, ◌<◌}
use native.Mathlib.Omega.{arith}
use native.Mathlib.Nat.{le_antisymm}
use lib.ListN.{length, take, drop}
use Rattle.meaning.specs.declared.Verdict.{Verdict}
use Rattle.meaning.specs.Answers.{CheckAnswer, FollowAnswer, JudgeAnswer, PromptAnswer, WriteAnswer, went_on, words}
use Rattle.meaning.specs.Expr.{Expr}
use Rattle.meaning.specs.Word.{Word}
use Rattle.meaning.specs.Strong.{StronglyDeterministic}
use Rattle.meaning.specs.Reading.{Item, Reading, codes}
use Rattle.meaning.specs.Codes.{SetInWords}
use Rattle.meaning.specs.Bytes.{two_at}
use Rattle.meaning.specs.File.{Admitted}
use Rattle.meaning.specs.State.{state_bytes, ReachesBytes}
use Rattle.meaning.specs.Record.{record_bytes}
use Rattle.meaning.specs.Numbers.{JudgeNumbers, judge_numbers, FollowNumbers, follow_numbers, WriteNumbers, write_numbers, CheckNumbers, check_numbers, PromptNumbers, prompt_numbers}
use Rattle.meaning.specs.Promises.{VerdictOf, complete, unfinished, broken, Takes, GoesOn, Judges, Follows, Writes, Checks, Lights, Prompts, JudgePromise, FollowPromise, WritePromise, CheckPromise, PromptPromise}
use Rattle.meaning.proofs.General.CodeSets.{set_unique}
use Rattle.meaning.proofs.Expressions.WordReading.{word_iff_reading}
use Rattle.meaning.proofs.Determinism.OneRecord.{same_codes_same_reading}
use Rattle.meaning.proofs.State.States.{one_state}
use Rattle.meaning.proofs.File.Files.{holds_bounded}
use Rattle.meaning.proofs.File.Refusals.{refused_unique, holds_unique, holds_not_refused, admitted_not_barred, barred_unique}

-- an admitted file holds one expression
pub admitted_unique : (f : List ℕ) (e d : Expr) → Admitted f e → Admitted f d → e ≡ d
admitted_unique f e d a b = holds_unique f e d a.holds b.holds

-- ---- Judge

judges_unique : (f : List ℕ) (a b : JudgeAnswer) → Judges f a → Judges f b → a ≡ b
judges_unique f a b (Judges.refused r x) (Judges.refused q y) = ap Err (barred_unique f r q x y)
judges_unique f a b (Judges.refused r x) (Judges.admitted e y) = absurd (admitted_not_barred f e r y x)
judges_unique f a b (Judges.admitted e x) (Judges.refused q y) = absurd (admitted_not_barred f e q x y)
judges_unique f a b (Judges.admitted e x) (Judges.admitted d y) = refl

pub judge_one_outcome : (f : List ℕ) (out other : JudgeNumbers) → JudgePromise f out → JudgePromise f other → out ≡ other
unfolding JudgePromise
judge_one_outcome f out other p q = p.2 ∙ ap judge_numbers (judges_unique f p.0 q.0 p.1 q.1) ∙ sym q.2

-- ---- Follow

takes_unique : (e : Expr) (u events : List ℕ) (t n : ℕ) → Takes e u events t → Takes e u events n → t ≡ n
takes_unique e u events t n a b = le_antisymm (b.longest t a.within a.continues) (a.longest n b.within b.continues)

verdict_unique : (e : Expr) (u events : List ℕ) (t : ℕ) (v w : Verdict) → VerdictOf e u events t v → VerdictOf e u events t w → v ≡ w
verdict_unique e u events t v w (complete a x) (complete b y) = refl
verdict_unique e u events t v w (complete a x) (unfinished b y) = absurd (y x)
verdict_unique e u events t v w (complete a x) (broken b) = absurd (omega arith)
verdict_unique e u events t v w (unfinished a x) (complete b y) = absurd (x y)
verdict_unique e u events t v w (unfinished a x) (unfinished b y) = refl
verdict_unique e u events t v w (unfinished a x) (broken b) = absurd (omega arith)
verdict_unique e u events t v w (broken a) (complete b y) = absurd (omega arith)
verdict_unique e u events t v w (broken a) (unfinished b y) = absurd (omega arith)
verdict_unique e u events t v w (broken a) (broken b) = refl

-- for a strongly deterministic expression, a run reaches one state
state_unique : (e : Expr) → StronglyDeterministic e → (u z y : List ℕ) → ReachesBytes e u z → ReachesBytes e u y → z ≡ y
state_unique e d u z y a b = a.2 ∙ ap state_bytes (one_state e d u a.0 b.0 a.1 b.1) ∙ sym b.2

-- a run goes on in one way
goes_on_unique : (e : Expr) → StronglyDeterministic e → (u events : List ℕ) (t n : ℕ) (v w : Verdict) (z y : List ℕ)
    → GoesOn e u events t v z → GoesOn e u events n w y → (◌≡◌ {A = FollowAnswer} (Ok (went_on t v)) (Ok (went_on n w))) × (z ≡ y)
goes_on_unique e d u events t n v w z y a b =
    let same = takes_unique e u events t n a.taken b.taken in
    let verdict = subst (λ (k : ℕ). VerdictOf e u events k v) same a.verdict in
    let state = subst (λ (k : ℕ). ReachesBytes e (u ++ take k events) z) same a.state in
    let verdicts = verdict_unique e u events n v w verdict b.verdict in
    (λ i. Ok (went_on (same i) (verdicts i)), state_unique e d (u ++ take n events) z y state b.state)

pub follows_unique : (f state events : List ℕ) (a b : FollowAnswer) (z y : List ℕ) → Follows f state events a z → Follows f state events b y → (a ≡ b) × (z ≡ y)
follows_unique f state events a b z y (Follows.refused r p) (Follows.refused q o) = (ap Err (barred_unique f r q p o), refl)
follows_unique f state events a b z y (Follows.refused r p) (Follows.unreached e o n) = absurd (admitted_not_barred f e r o p)
follows_unique f state events a b z y (Follows.refused r p) (Follows.followed e u t v after o n g) = absurd (admitted_not_barred f e r o p)
follows_unique f state events a b z y (Follows.unreached e o n) (Follows.refused q p) = absurd (admitted_not_barred f e q o p)
follows_unique f state events a b z y (Follows.unreached e o n) (Follows.unreached d p m) = (refl, refl)
follows_unique f state events a b z y (Follows.unreached e o n) (Follows.followed d u t v after p m g) =
    absurd (n u (subst (λ (x : Expr). ReachesBytes x u state) (admitted_unique f d e p o) m))
follows_unique f state events a b z y (Follows.followed e u t v after o n g) (Follows.refused q p) = absurd (admitted_not_barred f e q o p)
follows_unique f state events a b z y (Follows.followed e u t v after o n g) (Follows.unreached d p m) =
    absurd (m u (subst (λ (x : Expr). ReachesBytes x u state) (admitted_unique f e d o p) n))
follows_unique f state events a b z y (Follows.followed e u t v after o n g) (Follows.followed d w k x later p m j) =
    let same = admitted_unique f d e p o in
    let other = subst (λ (c : Expr). GoesOn c u events k x later) same (j u (subst (λ (c : Expr). ReachesBytes c u state) (sym same) n)) in
    goes_on_unique e o.strong u events t k v x after later (g u n) other

pub follow_one_outcome : (f state events : List ℕ) (out other : FollowNumbers) (z y : List ℕ)
    → FollowPromise f state events out z → FollowPromise f state events other y → (out ≡ other) × (z ≡ y)
unfolding FollowPromise
follow_one_outcome f state events out other z y p q =
    let same = follows_unique f state events p.0 q.0 z y p.1 q.1 in
    (p.2 ∙ ap follow_numbers same.0 ∙ sym q.2, same.1)

-- ---- Write

-- a run with a reading is a word
no_word : {f run : List ℕ} {e d : Expr} (x : List Item) → Admitted f e → ¬ Word e run → Admitted f d → Reading 0 d x → codes x ≡ run → ⊥
no_word {f} {run} {e} {d} x a n b r c =
    n (subst (λ (k : Expr). Word k run) (admitted_unique f d e b a) ((word_iff_reading 0 d (holds_bounded b.holds) run).1 (x, r, c)))

-- and has one
one_reading : {f run : List ℕ} {e d : Expr} {x y : List Item}
    → Admitted f e → Reading 0 e x → codes x ≡ run → Admitted f d → Reading 0 d y → codes y ≡ run → x ≡ y
one_reading {f} {e = e} {d = d} {x = x} {y = y} a r c b s k =
    same_codes_same_reading e (holds_bounded a.holds) a.strong x y r (subst (λ (o : Expr). Reading 0 o y) (admitted_unique f d e b a) s) (c ∙ sym k)

-- a record that fits the space and one that does not are not of one reading
no_fit : {x y : List Item} {n : ℕ} → x ≡ y → n < length (record_bytes x) → length (record_bytes y) ≤ n → ⊥
no_fit {x} {y} {n} e l m = let k = subst (λ (z : List Item). n < length (record_bytes z)) e l in omega arith

pub writes_unique : (f run space : List ℕ) (a b : WriteAnswer) (z y : List ℕ) → Writes f run space a z → Writes f run space b y → (a ≡ b) × (z ≡ y)
writes_unique f run space a b z y (Writes.refused r p) (Writes.refused q o) = (ap Err (barred_unique f r q p o), refl)
writes_unique f run space a b z y (Writes.refused r p) (Writes.too_long e o n) = absurd (admitted_not_barred f e r o p)
writes_unique f run space a b z y (Writes.refused r p) (Writes.incomplete e o l n) = absurd (admitted_not_barred f e r o p)
writes_unique f run space a b z y (Writes.refused r p) (Writes.no_room e x o l m c n) = absurd (admitted_not_barred f e r o p)
writes_unique f run space a b z y (Writes.refused r p) (Writes.written e x o l m c n) = absurd (admitted_not_barred f e r o p)
writes_unique f run space a b z y (Writes.too_long e o n) (Writes.refused r p) = absurd (admitted_not_barred f e r o p)
writes_unique f run space a b z y (Writes.too_long e o n) (Writes.too_long d p m) = (refl, refl)
writes_unique f run space a b z y (Writes.too_long e o n) (Writes.incomplete d p l m) = absurd (omega arith)
writes_unique f run space a b z y (Writes.too_long e o n) (Writes.no_room d x p l m c k) = absurd (omega arith)
writes_unique f run space a b z y (Writes.too_long e o n) (Writes.written d x p l m c k) = absurd (omega arith)
writes_unique f run space a b z y (Writes.incomplete e o l n) (Writes.refused r p) = absurd (admitted_not_barred f e r o p)
writes_unique f run space a b z y (Writes.incomplete e o l n) (Writes.too_long d p m) = absurd (omega arith)
writes_unique f run space a b z y (Writes.incomplete e o l n) (Writes.incomplete d p k m) = (refl, refl)
writes_unique f run space a b z y (Writes.incomplete e o l n) (Writes.no_room d x p k m c g) = absurd (no_word x o n p m c)
writes_unique f run space a b z y (Writes.incomplete e o l n) (Writes.written d x p k m c g) = absurd (no_word x o n p m c)
writes_unique f run space a b z y (Writes.no_room e x o l m c n) (Writes.refused r p) = absurd (admitted_not_barred f e r o p)
writes_unique f run space a b z y (Writes.no_room e x o l m c n) (Writes.too_long d p k) = absurd (omega arith)
writes_unique f run space a b z y (Writes.no_room e x o l m c n) (Writes.incomplete d p k g) = absurd (no_word x p g o m c)
writes_unique f run space a b z y (Writes.no_room e x o l m c n) (Writes.no_room d w p k g h j) = (refl, refl)
writes_unique f run space a b z y (Writes.no_room e x o l m c n) (Writes.written d w p k g h j) =
    absurd (no_fit (one_reading o m c p g h) n j)
writes_unique f run space a b z y (Writes.written e x o l m c n) (Writes.refused r p) = absurd (admitted_not_barred f e r o p)
writes_unique f run space a b z y (Writes.written e x o l m c n) (Writes.too_long d p k) = absurd (omega arith)
writes_unique f run space a b z y (Writes.written e x o l m c n) (Writes.incomplete d p k g) = absurd (no_word x p g o m c)
writes_unique f run space a b z y (Writes.written e x o l m c n) (Writes.no_room d w p k g h j) =
    absurd (no_fit (one_reading p g h o m c) j n)
writes_unique f run space a b z y (Writes.written e x o l m c n) (Writes.written d w p k g h j) =
    let same = one_reading o m c p g h in
    (ap (λ (v : List Item). Ok (length (record_bytes v))) same, ap (λ (v : List Item). record_bytes v ++ drop (length (record_bytes v)) space) same)

pub write_one_outcome : (f run space : List ℕ) (out other : WriteNumbers) (z y : List ℕ)
    → WritePromise f run space out z → WritePromise f run space other y → (out ≡ other) × (z ≡ y)
unfolding WritePromise
write_one_outcome f run space out other z y p q =
    let same = writes_unique f run space p.0 q.0 z y p.1 q.1 in
    (p.2 ∙ ap write_numbers same.0 ∙ sym q.2, same.1)

-- ---- Check

pub checks_unique : (f bytes : List ℕ) (a b : CheckAnswer) → Checks f bytes a → Checks f bytes b → a ≡ b
checks_unique f bytes a b (Checks.refused r p) (Checks.refused q o) = ap Err (refused_unique f r q p o)
checks_unique f bytes a b (Checks.refused r p) (Checks.yes e x h m n) = absurd (holds_not_refused f e r h p)
checks_unique f bytes a b (Checks.refused r p) (Checks.no e h n) = absurd (holds_not_refused f e r h p)
checks_unique f bytes a b (Checks.yes e x h m n) (Checks.refused q o) = absurd (holds_not_refused f e q h o)
checks_unique f bytes a b (Checks.yes e x h m n) (Checks.yes d y g k o) = refl
checks_unique f bytes a b (Checks.yes e x h m n) (Checks.no d g k) =
    absurd (k x (subst (λ (o : Expr). Reading 0 o x) (holds_unique f e d h g) m) n)
checks_unique f bytes a b (Checks.no e h n) (Checks.refused q o) = absurd (holds_not_refused f e q h o)
checks_unique f bytes a b (Checks.no e h n) (Checks.yes d y g k o) =
    absurd (n y (subst (λ (c : Expr). Reading 0 c y) (holds_unique f d e g h) k) o)
checks_unique f bytes a b (Checks.no e h n) (Checks.no d g k) = refl

pub check_one_outcome : (f bytes : List ℕ) (out other : CheckNumbers) → CheckPromise f bytes out → CheckPromise f bytes other → out ≡ other
unfolding CheckPromise
check_one_outcome f bytes out other p q = p.2 ∙ ap check_numbers (checks_unique f bytes p.0 q.0 p.1 q.1) ∙ sym q.2

-- ---- Prompt

prompts_unique : (f state : List ℕ) (a b : PromptAnswer) → Prompts f state a → Prompts f state b → a ≡ b
prompts_unique f state a b (Prompts.refused r p) (Prompts.refused q o) = ap Err (barred_unique f r q p o)
prompts_unique f state a b (Prompts.refused r p) (Prompts.unreached e o n) = absurd (admitted_not_barred f e r o p)
prompts_unique f state a b (Prompts.refused r p) (Prompts.lit e u low high o n s) = absurd (admitted_not_barred f e r o p)
prompts_unique f state a b (Prompts.unreached e o n) (Prompts.refused q p) = absurd (admitted_not_barred f e q o p)
prompts_unique f state a b (Prompts.unreached e o n) (Prompts.unreached d p m) = refl
prompts_unique f state a b (Prompts.unreached e o n) (Prompts.lit d u low high p m s) =
    absurd (n u (subst (λ (x : Expr). ReachesBytes x u state) (admitted_unique f d e p o) m))
prompts_unique f state a b (Prompts.lit e u low high o n s) (Prompts.refused q p) = absurd (admitted_not_barred f e q o p)
prompts_unique f state a b (Prompts.lit e u low high o n s) (Prompts.unreached d p k) =
    absurd (k u (subst (λ (x : Expr). ReachesBytes x u state) (admitted_unique f e d o p) n))
prompts_unique f state a b (Prompts.lit e u low high o n s) (Prompts.lit d v low' high' p k t) =
    let same = set_unique s (subst (λ (x : Expr). SetInWords (Lights x (two_at state 0)) low' high') (admitted_unique f d e p o) t) in
    ap₂ (λ (l h : ℕ). Ok (words l h)) same.0 same.1

pub prompt_one_outcome : (f state : List ℕ) (out other : PromptNumbers) → PromptPromise f state out → PromptPromise f state other → out ≡ other
unfolding PromptPromise
prompt_one_outcome f state out other p q = p.2 ∙ ap prompt_numbers (prompts_unique f state p.0 q.0 p.1 q.1) ∙ sym q.2
