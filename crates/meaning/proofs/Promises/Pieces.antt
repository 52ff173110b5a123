-- Following a run in pieces is following it at once: as long as no earlier piece breaks, the last verdict, all the events taken and
-- the state after them are those of one call on the whole.
use Rattle.std.specs.Prelude.{Ok}
use mathlib.Core.Path.{◌≡◌, refl, subst, subst⁻¹}
use mathlib.Core.List.{List, [], ◌∷◌, ◌++◌, append-nil, flatten}
use Prim.Native.Nat.{ℕ, ◌+◌}
use lib.ListN.{length}
use lib.Seq.{take-length}
use Rattle.meaning.specs.declared.Verdict.{Verdict}
use Rattle.meaning.specs.declared.Verdict.TheVariants.{Broken}
use Rattle.meaning.specs.Answers.{went_on}
use Rattle.meaning.specs.Expr.{Expr}
use Rattle.meaning.specs.State.{ReachesBytes}
use Rattle.meaning.specs.Numbers.{FollowNumbers, follow_numbers}
use Rattle.meaning.specs.Promises.{VerdictOf, complete, unfinished, broken, GoesOn, Follows, FollowPromise}
use Rattle.meaning.proofs.Promises.GoesOn.{goes_on_after}
use Rattle.meaning.proofs.File.Refusals.{holds_unique}
use Rattle.meaning.proofs.Promises.Outcomes.{follow_one_outcome}

-- a call that takes all of its events, and then one with further events, are one call with all of them
pub follow_join : (f state mid after a b : List ℕ) (t : ℕ) (v w : Verdict) → Follows f state a (Ok (went_on (length a) v)) mid
    → Follows f mid b (Ok (went_on t w)) after → Follows f state (a ++ b) (Ok (went_on (length a + t) w)) after
follow_join f state mid after a b t v w (Follows.followed e u i j z adm r g) (Follows.followed d x m y q also s o) =
    Follows.followed e u (length a + t) w after adm r on
  where
    further : (x : List ℕ) → ReachesBytes e x mid → GoesOn e x b t w after
    further = subst (λ (c : Expr). (x : List ℕ) → ReachesBytes c x mid → GoesOn c x b t w after) (holds_unique f d e also.holds adm.holds) o

    on : (x : List ℕ) → ReachesBytes e x state → GoesOn e x (a ++ b) (length a + t) w after
    on x k =
        let first = subst (λ (y : List ℕ). ReachesBytes e (x ++ y) mid) (take-length a) (g x k).state in
        goes_on_after e x a b t w after (further (x ++ a) first)

-- with a verdict other than broken all events are taken
verdict_takes_all : (e : Expr) (u events : List ℕ) (t : ℕ) (v : Verdict) → VerdictOf e u events t v → ¬ (v ≡ Broken) → t ≡ length events
verdict_takes_all e u events t v (complete h w) n = h
verdict_takes_all e u events t v (unfinished h w) n = h
verdict_takes_all e u events t v (broken h) n = absurd (n refl)

-- so a call that does not break takes all of its events
pub unbroken_takes_all : (f state events : List ℕ) (t : ℕ) (v : Verdict) (after : List ℕ) → Follows f state events (Ok (went_on t v)) after
    → ¬ (v ≡ Broken) → t ≡ length events
unbroken_takes_all f state events t v after (Follows.followed e u i j z adm r g) n = verdict_takes_all e u events t v (g u r).verdict n

-- calls one after the other, each from the state that the one before leaves, and none but the last broken; the events taken in all,
-- the last verdict, and the state after the last
pub data InPieces (f : List ℕ) : List ℕ → List (List ℕ) → ℕ → Verdict → List ℕ → Type 0 where
  last_piece : (state piece : List ℕ) (t : ℕ) (v : Verdict) (after : List ℕ) → Follows f state piece (Ok (went_on t v)) after
      → InPieces f state (piece ∷ []) t v after
  next_piece : (state piece mid : List ℕ) (pieces : List (List ℕ)) (t n : ℕ) (v w : Verdict) (after : List ℕ)
      → Follows f state piece (Ok (went_on t v)) mid → ¬ (v ≡ Broken) → InPieces f mid pieces n w after
      → InPieces f state (piece ∷ pieces) (t + n) w after

-- together they are one call on the whole run
pub pieces_follow : (f state : List ℕ) (pieces : List (List ℕ)) (t : ℕ) (v : Verdict) (after : List ℕ) → InPieces f state pieces t v after
    → Follows f state (flatten pieces) (Ok (went_on t v)) after
unfolding flatten
pieces_follow f state pieces t v after (last_piece s p i j z c) =
    subst⁻¹ (λ (x : List ℕ). Follows f state x (Ok (went_on t v)) after) (append-nil p) c
pieces_follow f state pieces t v after (next_piece s p mid rest i n j w z c unbroken k) =
    let all = unbroken_takes_all f state p i j mid c unbroken in
    let first = subst (λ (m : ℕ). Follows f state p (Ok (went_on m j)) mid) all c in
    subst⁻¹ (λ (m : ℕ). Follows f state (p ++ flatten rest) (Ok (went_on (m + n) v)) after) all
    (follow_join f state mid after p (flatten rest) n j v first (pieces_follow f mid rest n v after k))

-- and whatever one call on the whole run gives is what they give
pub pieces_one_outcome : (f state : List ℕ) (pieces : List (List ℕ)) (t : ℕ) (v : Verdict) (after : List ℕ) → InPieces f state pieces t v after
    → (out : FollowNumbers) (z : List ℕ) → FollowPromise f state (flatten pieces) out z
    → (out ≡ follow_numbers (Ok (went_on t v))) × (z ≡ after)
unfolding FollowPromise
pieces_one_outcome f state pieces t v after k out z p =
    follow_one_outcome f state (flatten pieces) out (follow_numbers (Ok (went_on t v))) z after p
    (Ok (went_on t v), pieces_follow f state pieces t v after k, refl)
