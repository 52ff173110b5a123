-- Files that use only codes 0 to 63 are answered as when there were no others: the table of kinds is the one to 63, and the high word of
-- each set, the prompt's and that of the shared codes, is 0. Assumes nothing.
use mathlib.Core.Path.{◌≡◌, refl, ap, ◌∙◌}
use mathlib.Core.Logic.{◌↔◌}
use mathlib.Core.List.{List, []}
use Prim.Native.Nat.{ℕ, zero, suc, ◌≤◌}
use native.Mathlib.Omega.{arith}
use Rattle.meaning.specs.Answers.{JudgeAnswer, PromptAnswer}
use Rattle.meaning.specs.Bytes.{two_at}
use Rattle.meaning.specs.Codes.{most_code}
use Rattle.meaning.specs.Conflict.{kind_number}
use Rattle.meaning.specs.Expr.{Expr, event, Part, Bounded}
use Rattle.meaning.specs.Node.{node, InTable, InTableTo, empty_line, event_line, choice_line, sequence_line, repeat_line}
use Rattle.meaning.specs.File.{Holds, malformed, conflicting}
use Rattle.meaning.specs.Numbers.{JudgeNumbers, judge_numbers, PromptNumbers, prompt_numbers}
use Rattle.meaning.specs.Promises.{Judges, JudgePromise, Lights, Prompts, PromptPromise}
use Rattle.meaning.specs.Sets.{FirstWorded}
use Rattle.meaning.proofs.File.EventNodes.{conflict_code, word_code}
use Rattle.meaning.proofs.File.Files.{holds_bounded}
use Rattle.meaning.proofs.General.CodeSets.{high_word_zero}
use Rattle.meaning.proofs.Places.Loosened.{lit_part}
use Rattle.meaning.proofs.Promises.JudgeNumbers.{refused_plain}

-- ---- the table of kinds

-- a record in a table is in every other that has its code
table_with : {most k c x y z : ℕ} (other : ℕ) → c ≤ other → InTableTo most (node k c x y z) → InTableTo other (node k c x y z)
table_with other l empty_line = empty_line
table_with other l (event_line c h) = event_line c l
table_with other l (choice_line a b) = choice_line a b
table_with other l (sequence_line a b) = sequence_line a b
table_with other l (repeat_line b lower upper h u k) = repeat_line b lower upper h u k

-- so for a record with a code up to 63 the table is the one to 63
pub table_to_63 : (k c x y z : ℕ) → c ≤ 63 → InTable (node k c x y z) ↔ InTableTo 63 (node k c x y z)
table_to_63 k c x y z l = (table_with 63 l, table_with most_code (omega arith))

-- the file's event codes are at most 63
abbrev pub LowCodes : List ℕ → Type 0
LowCodes f = (e : Expr) → Holds f e → (q c : ℕ) → Part 0 e q (event c) → c ≤ 63

-- ---- the prompt

-- a code that is lit is that of an event node
lit_code : (e : Expr) → Bounded e → (node c : ℕ) → Lights e node c → (q : ℕ) × Part 0 e q (event c)
unfolding FirstWorded
lit_code e h zero c f = word_code e h [] f.0 c f.1
lit_code e h (suc i) c f = lit_part e h i c f

lit_high_zero : (f state : List ℕ) → LowCodes f → (a : PromptAnswer) → Prompts f state a → (prompt_numbers a).high ≡ 0
lit_high_zero f state few a (Prompts.refused r p) = refl
lit_high_zero f state few a (Prompts.unreached e p n) = refl
lit_high_zero f state few a (Prompts.lit e u low high p n s) =
    high_word_zero s (λ c h. let q = lit_code e (holds_bounded p.holds) (two_at state 0) c h in few e p.holds q.0 c q.1)

pub prompt_high_zero : (f state : List ℕ) → LowCodes f → (out : PromptNumbers) → PromptPromise f state out → out.high ≡ 0
unfolding PromptPromise
prompt_high_zero f state few out p = ap (λ (n : PromptNumbers). n.high) p.2 ∙ lit_high_zero f state few p.0 p.1

-- ---- the shared codes

shared_high_zero : (f : List ℕ) → LowCodes f → (a : JudgeAnswer) → Judges f a → (judge_numbers a).high ≡ 0
shared_high_zero f few a (Judges.admitted e p) = refl
shared_high_zero f few a (Judges.refused r (malformed p)) = ap (λ (n : JudgeNumbers). n.high) (refused_plain p)
shared_high_zero f few a (Judges.refused r (conflicting e i k c w n p l s)) =
    high_word_zero s.set (λ d h. let q = conflict_code e i (kind_number k) d h in few e p q.0 d q.1)

pub judge_high_zero : (f : List ℕ) → LowCodes f → (out : JudgeNumbers) → JudgePromise f out → out.high ≡ 0
unfolding JudgePromise
judge_high_zero f few out p = ap (λ (n : JudgeNumbers). n.high) p.2 ∙ shared_high_zero f few p.0 p.1
