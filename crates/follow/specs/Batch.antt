-- What a batch of events comes to, from the expression of an admitted file. A model of our code, and no promise.
use Rattle.std.specs.Prelude.{◌≡◌, List, ℕ, length, Ok, Err}
use Rattle.meaning.specs.declared.Refusal.TheVariants.{Unreached}
use Rattle.meaning.specs.declared.Verdict.{Verdict}
use Rattle.meaning.specs.Answers.{FollowAnswer, went_on}
use Rattle.meaning.specs.Expr.{Expr}
use Rattle.meaning.specs.State.{state_bytes}
use Rattle.meaning.specs.Promises.{NoneReaches}
use Rattle.meaning.specs.Theory.Spots.{Spot, Safe}
use Rattle.meaning.specs.Theory.Runs.{spot_state, Going, VerdictAt}

-- from the bytes of a spot's state to those of the spot where the run then stands; the state is left where no run reaches it
pub data Went (e : Expr) (state events : List ℕ) : FollowAnswer → List ℕ → Type 0 where
  unreached : NoneReaches e state → Went e state events (Err Unreached) state
  went : (k j : Spot e) (t : ℕ) (v : Verdict) → Safe e k → state ≡ state_bytes (spot_state e k) → Going e k events t j
      → VerdictAt e j t (length events) v
      → Went e state events (Ok (went_on t v)) (state_bytes (spot_state e j))
