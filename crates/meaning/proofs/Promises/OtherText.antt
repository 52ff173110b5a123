-- The free text changes no answer: an outcome meets the promise on a file exactly if it meets it on the same with other text. As each
-- promise has one outcome, each call gives both files the same numbers and leaves the same bytes. Assumes nothing.
use mathlib.Core.Logic.{◌↔◌}
use mathlib.Core.List.{List}
use Prim.Native.Nat.{ℕ}
use Rattle.meaning.specs.declared.Refusal.{Refusal}
use Rattle.meaning.specs.Answers.{CheckAnswer, FollowAnswer, JudgeAnswer, PromptAnswer, WriteAnswer}
use Rattle.meaning.specs.Expr.{Expr}
use Rattle.meaning.specs.File.{Barred, malformed, conflicting, Admitted, SameButText}
use Rattle.meaning.specs.Numbers.{JudgeNumbers, FollowNumbers, WriteNumbers, CheckNumbers, PromptNumbers}
use Rattle.meaning.specs.Promises.{Judges, Follows, Writes, Checks, Prompts, JudgePromise, FollowPromise, WritePromise, CheckPromise, PromptPromise}
use Rattle.meaning.proofs.File.FreeText.{ReadAlike, text_read_alike}

-- ---- what is said of a file, said of one that is read alike

module _ {f g : List ℕ} (a : ReadAlike f g) where
  barred_too : (r : Refusal) → Barred f r → Barred g r
  barred_too r (malformed p) = malformed ((a.refused r).0 p)
  barred_too r (conflicting e i k c w n p l s) = conflicting e i k c w n ((a.holds e).0 p) l s

  admitted_too : (e : Expr) → Admitted f e → Admitted g e
  admitted_too e p = record { holds = (a.holds e).0 p.holds; strong = p.strong }

  judges_too : (answer : JudgeAnswer) → Judges f answer → Judges g answer
  judges_too answer (Judges.refused r p) = Judges.refused r (barred_too r p)
  judges_too answer (Judges.admitted e p) = Judges.admitted e (admitted_too e p)

  follows_too : (state events : List ℕ) (answer : FollowAnswer) (after : List ℕ) → Follows f state events answer after → Follows g state events answer after
  follows_too state events answer after (Follows.refused r p) = Follows.refused r (barred_too r p)
  follows_too state events answer after (Follows.unreached e p n) = Follows.unreached e (admitted_too e p) n
  follows_too state events answer after (Follows.followed e u t v z p n l) = Follows.followed e u t v z (admitted_too e p) n l

  writes_too : (run space : List ℕ) (answer : WriteAnswer) (after : List ℕ) → Writes f run space answer after → Writes g run space answer after
  writes_too run space answer after (Writes.refused r p) = Writes.refused r (barred_too r p)
  writes_too run space answer after (Writes.too_long e p l) = Writes.too_long e (admitted_too e p) l
  writes_too run space answer after (Writes.incomplete e p l n) = Writes.incomplete e (admitted_too e p) l n
  writes_too run space answer after (Writes.no_room e x p l n c k) = Writes.no_room e x (admitted_too e p) l n c k
  writes_too run space answer after (Writes.written e x p l n c k) = Writes.written e x (admitted_too e p) l n c k

  checks_too : (bytes : List ℕ) (answer : CheckAnswer) → Checks f bytes answer → Checks g bytes answer
  checks_too bytes answer (Checks.refused r p) = Checks.refused r ((a.refused r).0 p)
  checks_too bytes answer (Checks.yes e x p n b) = Checks.yes e x ((a.holds e).0 p) n b
  checks_too bytes answer (Checks.no e p n) = Checks.no e ((a.holds e).0 p) n

  prompts_too : (state : List ℕ) (answer : PromptAnswer) → Prompts f state answer → Prompts g state answer
  prompts_too state answer (Prompts.refused r p) = Prompts.refused r (barred_too r p)
  prompts_too state answer (Prompts.unreached e p n) = Prompts.unreached e (admitted_too e p) n
  prompts_too state answer (Prompts.lit e u low high p n s) = Prompts.lit e u low high (admitted_too e p) n s

-- ---- the calls

-- what goes over to every file that is read alike is said of both or of neither
of_both : (P : List ℕ → Type 0) → ((f g : List ℕ) → ReadAlike f g → P f → P g) → (f g : List ℕ) → SameButText f g → P f ↔ P g
of_both P over f g t =
    let a = text_read_alike f g t in
    (over f g a, over g f (record { refused = λ r. ((a.refused r).1, (a.refused r).0); holds = λ e. ((a.holds e).1, (a.holds e).0) }))

pub judge_ignores_text : (f g : List ℕ) → SameButText f g → (out : JudgeNumbers) → JudgePromise f out ↔ JudgePromise g out
unfolding JudgePromise
judge_ignores_text f g t out = of_both (λ h. JudgePromise h out) (λ x y a p. (p.0, judges_too a p.0 p.1, p.2)) f g t

pub follow_ignores_text : (f g : List ℕ) → SameButText f g → (state events : List ℕ) (out : FollowNumbers) (after : List ℕ)
    → FollowPromise f state events out after ↔ FollowPromise g state events out after
unfolding FollowPromise
follow_ignores_text f g t state events out after =
    of_both (λ h. FollowPromise h state events out after) (λ x y a p. (p.0, follows_too a state events p.0 after p.1, p.2)) f g t

pub write_ignores_text : (f g : List ℕ) → SameButText f g → (run space : List ℕ) (out : WriteNumbers) (after : List ℕ)
    → WritePromise f run space out after ↔ WritePromise g run space out after
unfolding WritePromise
write_ignores_text f g t run space out after =
    of_both (λ h. WritePromise h run space out after) (λ x y a p. (p.0, writes_too a run space p.0 after p.1, p.2)) f g t

pub check_ignores_text : (f g : List ℕ) → SameButText f g → (bytes : List ℕ) (out : CheckNumbers)
    → CheckPromise f bytes out ↔ CheckPromise g bytes out
unfolding CheckPromise
check_ignores_text f g t bytes out = of_both (λ h. CheckPromise h bytes out) (λ x y a p. (p.0, checks_too a bytes p.0 p.1, p.2)) f g t

pub prompt_ignores_text : (f g : List ℕ) → SameButText f g → (state : List ℕ) (out : PromptNumbers)
    → PromptPromise f state out ↔ PromptPromise g state out
unfolding PromptPromise
prompt_ignores_text f g t state out = of_both (λ h. PromptPromise h state out) (λ x y a p. (p.0, prompts_too a state p.0 p.1, p.2)) f g t
