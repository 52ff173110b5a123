-- The request's numbers and values for each case of the answers. Fields without a meaning are 0.
use Rattle.std.specs.Prelude.{true, false, ℕ, Ok, Err}
use Rattle.meaning.specs.declared.Refusal.{Refusal}
use Rattle.meaning.specs.declared.Refusal.TheVariants.{Size, Letters, Measures, Record, Order, Repeats, Conflict, Unreached, Length, Incomplete, Room}
use Rattle.meaning.specs.declared.Verdict.{Verdict}
use Rattle.meaning.specs.declared.Verdict.TheVariants.{Complete, Unfinished, Broken}
use Rattle.meaning.specs.Answers.{CheckAnswer, FollowAnswer, JudgeAnswer, PromptAnswer, WriteAnswer}
use Rattle.meaning.specs.Conflict.{kind_number}

-- the numbers of Judge: 0 to 7, node, kind, code, the two words of the set of shared codes, and how many they are
pub record JudgeNumbers : Type 0 where
  pub answer : ℕ
  pub node : ℕ
  pub kind : ℕ
  pub code : ℕ
  pub low : ℕ
  pub high : ℕ
  pub count : ℕ

abbrev pub judged : ℕ → ℕ → ℕ → ℕ → ℕ → ℕ → ℕ → JudgeNumbers
judged a i k c l h n = record { answer = a; node = i; kind = k; code = c; low = l; high = h; count = n }

-- an answer with a node and no conflict
abbrev pub plain : ℕ → ℕ → JudgeNumbers
plain a i = judged a i 0 0 0 0 0

-- the table of numbers: the number of a refusal, the node reported, and what is told of a conflict
abbrev pub row : Refusal → JudgeNumbers
row Size = plain 1 0
row Letters = plain 2 0
row Measures = plain 3 0
row (Record i) = plain 4 i
row (Order i) = plain 5 i
row (Repeats i) = plain 6 i
row (Conflict i k c w n) = judged 7 i (kind_number k) c w.low w.high n
row Unreached = plain 8 0
row Length = plain 9 0
row Incomplete = plain 10 0
row Room = plain 11 0

-- 0 complete, 1 unfinished, 2 broken
abbrev pub verdict_number : Verdict → ℕ
verdict_number Complete = 0
verdict_number Unfinished = 1
verdict_number Broken = 2

abbrev pub judge_numbers : JudgeAnswer → JudgeNumbers
judge_numbers (Ok _) = plain 0 0
judge_numbers (Err r) = row r

-- the numbers of Follow: 0 to 8, the number of events taken, the verdict
pub record FollowNumbers : Type 0 where
  pub answer : ℕ
  pub taken : ℕ
  pub verdict : ℕ

abbrev pub followed : ℕ → ℕ → ℕ → FollowNumbers
followed a t v = record { answer = a; taken = t; verdict = v }

abbrev pub follow_numbers : FollowAnswer → FollowNumbers
follow_numbers (Ok x) = followed 0 x.taken (verdict_number x.verdict)
follow_numbers (Err r) = followed (row r).answer 0 0

-- the numbers of Write: 0 to 7 or 9 to 11, the length in bytes
pub record WriteNumbers : Type 0 where
  pub answer : ℕ
  pub length : ℕ

abbrev pub wrote : ℕ → ℕ → WriteNumbers
wrote a n = record { answer = a; length = n }

abbrev pub write_numbers : WriteAnswer → WriteNumbers
write_numbers (Ok n) = wrote 0 n
write_numbers (Err r) = wrote (row r).answer 0

-- the numbers of Check: 0 to 6, yes (1) or no (0)
pub record CheckNumbers : Type 0 where
  pub answer : ℕ
  pub yes : ℕ

abbrev pub checked : ℕ → ℕ → CheckNumbers
checked a y = record { answer = a; yes = y }

abbrev pub check_numbers : CheckAnswer → CheckNumbers
check_numbers (Ok true) = checked 0 1
check_numbers (Ok false) = checked 0 0
check_numbers (Err r) = checked (row r).answer 0

-- the numbers of Prompt: 0 to 8, the two words of the set
pub record PromptNumbers : Type 0 where
  pub answer : ℕ
  pub low : ℕ
  pub high : ℕ

abbrev pub prompted : ℕ → ℕ → ℕ → PromptNumbers
prompted a l h = record { answer = a; low = l; high = h }

abbrev pub prompt_numbers : PromptAnswer → PromptNumbers
prompt_numbers (Ok x) = prompted 0 x.low x.high
prompt_numbers (Err r) = prompted (row r).answer 0 0
