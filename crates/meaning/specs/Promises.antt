-- What each public call promises: every number it gives and every byte of the lent space afterwards.
use Rattle.std.specs.Prelude.{◌≡◌, List, ◌++◌, ℕ, zero, suc, ◌≤◌, ◌<◌, length, take, drop, true, false, Ok, Err}
use Rattle.meaning.specs.declared.Refusal.{Refusal}
use Rattle.meaning.specs.declared.Refusal.TheVariants.{Unreached, Length, Incomplete, Room}
use Rattle.meaning.specs.declared.Verdict.{Verdict}
use Rattle.meaning.specs.declared.Verdict.TheVariants.{Complete, Unfinished, Broken}
use Rattle.meaning.specs.Answers.{CheckAnswer, FollowAnswer, JudgeAnswer, PromptAnswer, WriteAnswer, went_on, words}
use Rattle.meaning.specs.Expr.{Expr}
use Rattle.meaning.specs.Word.{Word, Begins}
use Rattle.meaning.specs.Reading.{Item, Reading, codes}
use Rattle.meaning.specs.Sets.{FirstWorded}
use Rattle.meaning.specs.Codes.{SetInWords}
use Rattle.meaning.specs.Bytes.{two_at}
use Rattle.meaning.specs.File.{Refused, Holds, Barred, Admitted}
use Rattle.meaning.specs.State.{ReachesBytes}
use Rattle.meaning.specs.Record.{record_bytes}
use Rattle.meaning.specs.Loose.{loosen, DirectlyFollows}
use Rattle.meaning.specs.Numbers.{JudgeNumbers, judge_numbers, FollowNumbers, follow_numbers, WriteNumbers, write_numbers, CheckNumbers, check_numbers, PromptNumbers, prompt_numbers}

-- Judge: the lowest refusal that applies, or admitted
pub data Judges (f : List ℕ) : JudgeAnswer → Type 0 where
  refused : (r : Refusal) → Barred f r → Judges f (Err r)
  admitted : (e : Expr) → Admitted f e → Judges f (Ok tt)

-- how the run u stands after t of the events that come
pub data VerdictOf (e : Expr) (u events : List ℕ) (t : ℕ) : Verdict → Type 0 where
  complete : t ≡ length events → Word e (u ++ events) → VerdictOf e u events t Complete
  unfinished : t ≡ length events → ¬ Word e (u ++ events) → VerdictOf e u events t Unfinished
  broken : t < length events → VerdictOf e u events t Broken

-- after the run u, events are taken up to the first that does not continue
pub record Takes (e : Expr) (u events : List ℕ) (t : ℕ) : Type 0 where
  pub within : t ≤ length events
  pub continues : Begins e (u ++ take t events)
  pub longest : (n : ℕ) → n ≤ length events → Begins e (u ++ take n events) → n ≤ t

-- the run u goes on with the events: so many are taken, so it stands, and this is the state after those taken
pub record GoesOn (e : Expr) (u events : List ℕ) (t : ℕ) (v : Verdict) (after : List ℕ) : Type 0 where
  pub taken : Takes e u events t
  pub verdict : VerdictOf e u events t v
  pub state : ReachesBytes e (u ++ take t events) after

-- no beginning of a word reaches the state
abbrev pub NoneReaches : Expr → List ℕ → Type 0
NoneReaches e state = (u : List ℕ) → ¬ ReachesBytes e u state

-- Follow: the answer speaks of every run that reaches the given state; a refusal leaves the state as it came
pub data Follows (f state events : List ℕ) : FollowAnswer → List ℕ → Type 0 where
  refused : (r : Refusal) → Barred f r → Follows f state events (Err r) state
  unreached : (e : Expr) → Admitted f e → NoneReaches e state → Follows f state events (Err Unreached) state
  followed : (e : Expr) (u : List ℕ) (t : ℕ) (v : Verdict) (after : List ℕ) → Admitted f e → ReachesBytes e u state
      → ((w : List ℕ) → ReachesBytes e w state → GoesOn e w events t v after) → Follows f state events (Ok (went_on t v)) after

-- Write: the record of the reading with the run's codes at the beginning of the space, which is otherwise as it came
pub data Writes (f run space : List ℕ) : WriteAnswer → List ℕ → Type 0 where
  refused : (r : Refusal) → Barred f r → Writes f run space (Err r) space
  too_long : (e : Expr) → Admitted f e → 65536 < length run → Writes f run space (Err Length) space
  incomplete : (e : Expr) → Admitted f e → length run ≤ 65536 → ¬ Word e run → Writes f run space (Err Incomplete) space
  no_room : (e : Expr) (x : List Item) → Admitted f e → length run ≤ 65536 → Reading 0 e x → codes x ≡ run
      → length space < length (record_bytes x) → Writes f run space (Err Room) space
  written : (e : Expr) (x : List Item) → Admitted f e → length run ≤ 65536 → Reading 0 e x → codes x ≡ run
      → length (record_bytes x) ≤ length space
      → Writes f run space (Ok (length (record_bytes x))) (record_bytes x ++ drop (length (record_bytes x)) space)

-- Check: yes exactly if the bytes are the record of a reading; a conflict does not matter here
pub data Checks (f bytes : List ℕ) : CheckAnswer → Type 0 where
  refused : (r : Refusal) → Refused f r → Checks f bytes (Err r)
  yes : (e : Expr) (x : List Item) → Holds f e → Reading 0 e x → bytes ≡ record_bytes x → Checks f bytes (Ok true)
  no : (e : Expr) → Holds f e → ((x : List Item) → Reading 0 e x → ¬ (bytes ≡ record_bytes x)) → Checks f bytes (Ok false)

-- the code is lit: at the start, it is in first of the root; otherwise, it is the code of an event node that can directly
-- follow the node reached in some reading of the loosened procedure
abbrev pub Lights : Expr → ℕ → ℕ → Type 0
Lights e zero c = FirstWorded e c
Lights e (suc i) c = (j : ℕ) × DirectlyFollows (loosen e) i j c

-- Prompt: the set of the codes that are lit
pub data Prompts (f state : List ℕ) : PromptAnswer → Type 0 where
  refused : (r : Refusal) → Barred f r → Prompts f state (Err r)
  unreached : (e : Expr) → Admitted f e → NoneReaches e state → Prompts f state (Err Unreached)
  lit : (e : Expr) (u : List ℕ) (low high : ℕ) → Admitted f e → ReachesBytes e u state
      → SetInWords (Lights e (two_at state 0)) low high → Prompts f state (Ok (words low high))

-- the promises on numbers and bytes, as the calls give them
unfoldable pub JudgePromise : List ℕ → JudgeNumbers → Type 0
JudgePromise f out = (a : JudgeAnswer) × Judges f a × (out ≡ judge_numbers a)

unfoldable pub FollowPromise : List ℕ → List ℕ → List ℕ → FollowNumbers → List ℕ → Type 0
FollowPromise f state events out after = (a : FollowAnswer) × Follows f state events a after × (out ≡ follow_numbers a)

unfoldable pub WritePromise : List ℕ → List ℕ → List ℕ → WriteNumbers → List ℕ → Type 0
WritePromise f run space out after = (a : WriteAnswer) × Writes f run space a after × (out ≡ write_numbers a)

unfoldable pub CheckPromise : List ℕ → List ℕ → CheckNumbers → Type 0
CheckPromise f bytes out = (a : CheckAnswer) × Checks f bytes a × (out ≡ check_numbers a)

unfoldable pub PromptPromise : List ℕ → List ℕ → PromptNumbers → Type 0
PromptPromise f state out = (a : PromptAnswer) × Prompts f state a × (out ≡ prompt_numbers a)
