-- The calls meet: what Write writes Check accepts; what Check accepts Follow calls complete, and Write gives again byte for byte. Records
-- that Check accepts agree as far as their codes do, and a complete run has one. Each theorem speaks of whatever keeps the promises.
use Rattle.std.specs.Prelude.{true, Ok}
use mathlib.Core.Path.{◌≡◌, refl, sym, ap, ◌∙◌, subst, subst⁻¹}
use mathlib.Core.List.{List, [], ◌++◌, append-nil}
use Prim.Native.Nat.{ℕ, ◌≤◌}
use native.Mathlib.Omega.{arith}
use native.Mathlib.Nat.{le_antisymm}
use lib.ListN.{length, take, drop, replicate}
use lib.Seq.{take-length, take-append_seam}
use Rattle.meaning.specs.declared.Verdict.{Verdict}
use Rattle.meaning.specs.declared.Verdict.TheVariants.{Complete}
use Rattle.meaning.specs.Answers.{CheckAnswer, FollowAnswer, WriteAnswer, went_on}
use Rattle.meaning.specs.Expr.{Expr, size}
use Rattle.meaning.specs.Word.{Word}
use Rattle.meaning.specs.Reading.{Item, Reading, codes, up_to}
use Rattle.meaning.specs.File.{Holds, Admitted}
use Rattle.meaning.specs.State.{ReachesBytes}
use Rattle.meaning.specs.Record.{record_bytes}
use Rattle.meaning.specs.Promises.{VerdictOf, complete, unfinished, broken, GoesOn, Follows, Writes, Checks}
use Rattle.meaning.specs.Theory.Counts.{start_state}
use Rattle.meaning.proofs.File.Files.{holds_bounded}
use Rattle.meaning.proofs.File.Refusals.{holds_unique, admitted_not_barred}
use Rattle.meaning.proofs.Expressions.WordReading.{word_iff_reading}
use Rattle.meaning.proofs.Determinism.OneRecord.{readings_agree, same_codes_same_reading}
use Rattle.meaning.proofs.Expressions.Records.{record_append, record_determines_items}
use Rattle.meaning.proofs.State.States.{reaches_start, reading_parted}
use Rattle.meaning.proofs.State.StateBytes.{start_all_zero}
use Rattle.meaning.proofs.Promises.Outcomes.{admitted_unique, writes_unique, checks_unique}

-- the state before the first event
abbrev pub start_bytes : List ℕ
start_bytes = replicate 66 0

-- Check accepts the bytes, and they are the record of the items, a reading of the expression
pub record Accepted (f : List ℕ) (e : Expr) (bytes : List ℕ) (x : List Item) : Type 0 where
  pub yes : Checks f bytes (Ok true)
  pub reading : Reading 0 e x
  pub bytes_are : bytes ≡ record_bytes x

-- ---- Check

-- bytes that Check accepts are the record of one reading
pub accepted_one_reading : (f : List ℕ) (e : Expr) (bytes : List ℕ) → Holds f e → Checks f bytes (Ok true)
    → (x : List Item) × Accepted f e bytes x × ((y : List Item) → Accepted f e bytes y → y ≡ x)
accepted_one_reading f e bytes h (Checks.yes d x g r b) =
    let reading = subst (λ (o : Expr). Reading 0 o x) (holds_unique f d e g h) r in
    let small : size e ≤ 512 = omega (arith, h.formed.lists.1, h.formed.framed.2.1) in (
      x,
      record { yes = Checks.yes d x g r b; reading = reading; bytes_are = b },
      λ y m. record_determines_items e small y x m.reading reading (sym m.bytes_are ∙ b),
    )

-- ---- Follow

-- no event leads to the start
starts : {f : List ℕ} {e : Expr} → Admitted f e → ReachesBytes e [] start_bytes
starts {e = e} adm = (start_state e, reaches_start e (holds_bounded adm.holds), sym (start_all_zero e))

-- from there the answer speaks of the events given alone
from_start : {f : List ℕ} {e : Expr} → Admitted f e → (events : List ℕ) (t : ℕ) (v : Verdict) (after : List ℕ)
    → Follows f start_bytes events (Ok (went_on t v)) after → GoesOn e [] events t v after
from_start {f} {e} adm events t v after (Follows.followed d u n w z o r g) =
    subst (λ (c : Expr). GoesOn c [] events t v after) (admitted_unique f d e o adm) (g [] (starts o))

-- a word taken whole is complete
whole_complete : (e : Expr) (w : List ℕ) (t : ℕ) (v : Verdict) → Word e w → t ≡ length w → VerdictOf e [] w t v → v ≡ Complete
whole_complete e w t v word all (complete h k) = refl
whole_complete e w t v word all (unfinished h n) = absurd (n word)
whole_complete e w t v word all (broken h) = absurd (omega arith)

-- a word is taken whole
word_complete : (e : Expr) (w : List ℕ) (t : ℕ) (v : Verdict) (after : List ℕ) → Word e w → GoesOn e [] w t v after
    → ◌≡◌ {A = FollowAnswer} (Ok (went_on t v)) (Ok (went_on (length w) Complete))
word_complete e w t v after word g =
    let whole = subst⁻¹ (Word e) (append-nil (take (length w) w) ∙ take-length w) word in
    let all = le_antisymm g.taken.within (g.taken.longest (length w) (omega arith) ([], whole)) in
    let verdict = whole_complete e w t v word all g.verdict in
    λ i. Ok (went_on (all i) (verdict i))

-- what Check accepts, Follow calls complete
pub accepted_complete : (f : List ℕ) (e : Expr) (bytes : List ℕ) (x : List Item) → Admitted f e → Accepted f e bytes x
    → (a : FollowAnswer) (after : List ℕ) → Follows f start_bytes (codes x) a after → a ≡ Ok (went_on (length (codes x)) Complete)
accepted_complete f e bytes x adm k a after (Follows.refused r b) = absurd (admitted_not_barred f e r adm b)
accepted_complete f e bytes x adm k a after (Follows.unreached d o n) = absurd (n [] (starts o))
accepted_complete f e bytes x adm k a after (Follows.followed d u t v z o r g) =
    let word = (word_iff_reading 0 e (holds_bounded adm.holds) (codes x)).1 (x, k.reading, refl) in
    word_complete e (codes x) t v after word (from_start adm (codes x) t v after (Follows.followed d u t v after o r g))

-- ---- Write

-- what Write writes, Check accepts
pub written_accepted : (f run space : List ℕ) (n : ℕ) (after : List ℕ) (a : CheckAnswer) → Writes f run space (Ok n) after
    → Checks f (take n after) a → a ≡ (Ok true)
written_accepted f run space n after a (Writes.written e x adm l r c room) k =
    checks_unique f (take n after) a (Ok true) k (Checks.yes e x adm.holds r (take-append_seam (record_bytes x) _))

-- on the codes of what Check accepts, Write gives the same bytes
pub accepted_written : (f : List ℕ) (e : Expr) (bytes : List ℕ) (x : List Item) → Admitted f e → Accepted f e bytes x
    → length (codes x) ≤ 65536 → (space : List ℕ) → length bytes ≤ length space → (a : WriteAnswer) (after : List ℕ)
    → Writes f (codes x) space a after → (a ≡ Ok (length bytes)) × (after ≡ bytes ++ drop (length bytes) space)
accepted_written f e bytes x adm k l space room a after p =
    let same = k.bytes_are in
    let fits = subst (λ (b : List ℕ). length b ≤ length space) same room in
    subst⁻¹ (λ (b : List ℕ). (a ≡ Ok (length b)) × (after ≡ b ++ drop (length b) space)) same
    (writes_unique f (codes x) space a _ after _ p (Writes.written e x adm l k.reading refl fits))

-- ---- two records

-- an accepted record begins with the bytes of its items up to the n-th event
accepted_begins : {f : List ℕ} {e : Expr} {bytes : List ℕ} (x : List Item) (n : ℕ) → Admitted f e → Accepted f e bytes x → n ≤ length (codes x)
    → take (length (record_bytes (up_to x n))) bytes ≡ record_bytes (up_to x n)
accepted_begins {e = e} x n adm k l =
    let front = record_bytes (up_to x n) in
    let cut = reading_parted e (holds_bounded adm.holds) x n k.reading l in
    let whole = k.bytes_are ∙ ap record_bytes cut.2 ∙ record_append (up_to x n) cut.0 in
    ap (take (length front)) whole ∙ take-append_seam front (record_bytes cut.0)

-- two accepted records whose codes agree up to the n-th event agree in every item up to it, and both begin with the bytes of those items
pub accepted_agree : (f : List ℕ) (e : Expr) (b c : List ℕ) (x y : List Item) (n : ℕ) → Admitted f e → Accepted f e b x → Accepted f e c y
    → n ≤ length (codes x) → n ≤ length (codes y) → take n (codes x) ≡ take n (codes y)
    → let front = record_bytes (up_to x n) in (up_to x n ≡ up_to y n) × (take (length front) b ≡ front) × (take (length front) c ≡ front)
accepted_agree f e b c x y n adm k m p q same =
    let agree = readings_agree e adm.strong n x y k.reading m.reading p q same in
    let other = subst⁻¹ (λ (z : List Item). take (length (record_bytes z)) c ≡ record_bytes z) agree (accepted_begins y n adm m q) in
    (agree, accepted_begins x n adm k p, other)

-- the bytes are an accepted record with the codes of the run
abbrev pub RecordOfRun : List ℕ → Expr → List ℕ → List ℕ → Type 0
RecordOfRun f e run bytes = (x : List Item) × Accepted f e bytes x × (codes x ≡ run)

-- and the only one
abbrev pub OneRecordOfRun : List ℕ → Expr → List ℕ → List ℕ → Type 0
OneRecordOfRun f e run bytes = RecordOfRun f e run bytes × ((other : List ℕ) → RecordOfRun f e run other → other ≡ bytes)

-- a run has at most one
pub record_unique : (f : List ℕ) (e : Expr) (run b c : List ℕ) → Admitted f e → RecordOfRun f e run b → RecordOfRun f e run c → b ≡ c
record_unique f e run b c adm k m =
    let same = same_codes_same_reading e (holds_bounded adm.holds) adm.strong k.0 m.0 k.1.reading m.1.reading (k.2 ∙ sym m.2) in
    k.1.bytes_are ∙ ap record_bytes same ∙ sym m.1.bytes_are

-- the record of a reading is the only one of its codes
reading_one_record : {f : List ℕ} {e : Expr} (run bytes : List ℕ) (x : List Item) → Admitted f e → Reading 0 e x → codes x ≡ run → bytes ≡ record_bytes x
    → OneRecordOfRun f e run bytes
reading_one_record {f} {e} run bytes x adm r c b =
    let k : RecordOfRun f e run bytes = (x, record { yes = Checks.yes e x adm.holds r b; reading = r; bytes_are = b }, c) in
    (k, λ other m. record_unique f e run other bytes adm m k)

-- a run that Follow calls complete has one
pub complete_one_record : (f : List ℕ) (e : Expr) (run : List ℕ) (t : ℕ) (after : List ℕ) → Admitted f e
    → Follows f start_bytes run (Ok (went_on t Complete)) after → (bytes : List ℕ) × OneRecordOfRun f e run bytes
complete_one_record f e run t after adm p = one (from_start adm run t Complete after p).verdict
  where
    one : VerdictOf e [] run t Complete → (bytes : List ℕ) × OneRecordOfRun f e run bytes
    one (complete h w) =
        let x = (word_iff_reading 0 e (holds_bounded adm.holds) run).0 w in
        (record_bytes x.0, reading_one_record run (record_bytes x.0) x.0 adm x.1 x.2 refl)

-- and the one that Write writes is it
pub written_one_record : (f : List ℕ) (e : Expr) (run space : List ℕ) (n : ℕ) (after : List ℕ) → Admitted f e
    → Writes f run space (Ok n) after → OneRecordOfRun f e run (take n after)
written_one_record f e run space n after adm (Writes.written d x o l r c room) =
    let reading = subst (λ (z : Expr). Reading 0 z x) (admitted_unique f d e o adm) r in
    reading_one_record run (take n after) x adm reading c (take-append_seam (record_bytes x) (drop (length (record_bytes x)) space))
