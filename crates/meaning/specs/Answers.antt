-- What each call answers: its results, or why it is refused.
use Rattle.std.specs.Prelude.{Bool, ℕ, Result}
use Rattle.meaning.specs.declared.Refusal.{Refusal}
use Rattle.meaning.specs.declared.Followed.{Followed}
use Rattle.meaning.specs.declared.Verdict.{Verdict}
use Rattle.meaning.specs.declared.Words.{Words}

-- admitted, or refused
abbrev pub JudgeAnswer : Type 0
JudgeAnswer = Result Unit Refusal

-- so many events were taken, and so the run stands
abbrev pub FollowAnswer : Type 0
FollowAnswer = Result Followed Refusal

abbrev pub went_on : ℕ → Verdict → Followed
went_on t v = record { taken = t; verdict = v }

-- the record stands in so many bytes of the space
abbrev pub WriteAnswer : Type 0
WriteAnswer = Result ℕ Refusal

-- whether the bytes are the record of a reading
abbrev pub CheckAnswer : Type 0
CheckAnswer = Result Bool Refusal

-- the codes to light, as two words
abbrev pub PromptAnswer : Type 0
PromptAnswer = Result Words Refusal

abbrev pub words : ℕ → ℕ → Words
words low high = record { low = low; high = high }
