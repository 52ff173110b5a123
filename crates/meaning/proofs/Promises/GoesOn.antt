-- How a run goes on with events, where some of them come first: what it does after those is what it does in one go.
use mathlib.Core.Path.{◌≡◌, sym, ap, ◌∙◌, subst, subst⁻¹}
use mathlib.Core.List.{List, ◌++◌, append_assoc}
use Prim.Native.Nat.{ℕ, ◌+◌, ◌-◌, ◌≤◌}
use native.Mathlib.Decide.{dec_le}
use native.Mathlib.Omega.{arith}
use lib.ListN.{length, take, length-append}
use lib.Seq.{take-append-add}
use Rattle.meaning.specs.declared.Verdict.{Verdict}
use Rattle.meaning.specs.Expr.{Expr}
use Rattle.meaning.specs.Word.{Word, Begins}
use Rattle.meaning.specs.State.{ReachesBytes}
use Rattle.meaning.specs.Promises.{VerdictOf, complete, unfinished, broken, Takes, GoesOn}

module _ (e : Expr) (u a b : List ℕ) where
  -- after the run and the first events, the others' first n are those of both from the run on
  regroup : (n : ℕ) → (u ++ a) ++ take n b ≡ u ++ take (length a + n) (a ++ b)
  regroup n = append_assoc u a (take n b) ∙ ap (λ (x : List ℕ). u ++ x) (sym (take-append-add a b n))

  -- no more events are taken in one go than after the first
  longest_after : (t : ℕ) → Takes e (u ++ a) b t → (n : ℕ) → n ≤ length (a ++ b) → Begins e (u ++ take n (a ++ b)) → n ≤ length a + t
  longest_after t k n l g = go (dec_le n (length a))
    where
      go : Dec (n ≤ length a) → n ≤ length a + t
      go (yes h) = omega arith
      go (no h) =
          let m = n - length a in
          let same : n ≡ length a + m = omega arith in
          let further = subst⁻¹ (Begins e) (regroup m) (subst (λ (i : ℕ). Begins e (u ++ take i (a ++ b))) same g) in
          let both = length-append a b in
          let most = k.longest m (omega arith) further in
          omega arith

  -- the events taken
  takes_after : (t : ℕ) → Takes e (u ++ a) b t → Takes e u (a ++ b) (length a + t)
  takes_after t k =
      record {
        within = omega (arith, length-append a b, k.within);
        continues = subst (Begins e) (regroup t) k.continues;
        longest = longest_after t k;
      }

  -- the verdict
  verdict_after : (t : ℕ) (v : Verdict) → VerdictOf e (u ++ a) b t v → VerdictOf e u (a ++ b) (length a + t) v
  verdict_after t v (complete h w) = complete (omega (arith, length-append a b)) (subst (Word e) (append_assoc u a b) w)
  verdict_after t v (unfinished h n) = unfinished (omega (arith, length-append a b)) (λ w. n (subst⁻¹ (Word e) (append_assoc u a b) w))
  verdict_after t v (broken h) = broken (omega (arith, length-append a b))

  -- a run that goes on with events after some others goes on so with all of them
  pub goes_on_after : (t : ℕ) (v : Verdict) (z : List ℕ) → GoesOn e (u ++ a) b t v z → GoesOn e u (a ++ b) (length a + t) v z
  goes_on_after t v z g =
      record {
        taken = takes_after t g.taken;
        verdict = verdict_after t v g.verdict;
        state = subst (λ (w : List ℕ). ReachesBytes e w z) (regroup t) g.state;
      }
