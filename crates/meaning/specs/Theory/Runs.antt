-- No promise, a model of Follow in our code: where ways lead from a spot, and how a run stands after the events taken along them.
use Rattle.std.specs.Prelude.{◌≡◌, List, [], ◌∷◌, ℕ, suc, ◌<◌}
use Rattle.meaning.specs.declared.Verdict.{Verdict}
use Rattle.meaning.specs.declared.Verdict.TheVariants.{Complete, Unfinished, Broken}
use Rattle.meaning.specs.Expr.{Expr, event, Part}
use Rattle.meaning.specs.State.{State}
use Rattle.meaning.specs.Theory.Places.{Place}
use Rattle.meaning.specs.Theory.Spots.{Spot, start, behind, CanStop}
use Rattle.meaning.specs.Theory.Ways.{enters, entry, turns, way}
use Rattle.meaning.specs.Theory.Counts.{place_state, start_state}

-- the state at the spot
abbrev pub spot_state : (e : Expr) → Spot e → State
spot_state e start = start_state e
spot_state e (behind p) = place_state e p

-- the way from the spot to event node q leads to the place
abbrev pub LeadsTo : (e : Expr) → Spot e → ℕ → Place e → Type 0
LeadsTo e start q t = entry 0 e q ≡ enters t
LeadsTo e (behind p) q t = way 0 e p q ≡ turns t

-- no event node with the code has a way from the spot
unfoldable pub NoWay : (e : Expr) → Spot e → ℕ → Type 0
NoWay e k c = (q : ℕ) → Part 0 e q (event c) → (t : Place e) → ¬ LeadsTo e k q t

-- from the first spot so many of the events are taken, each by a way, up to one without; the run then stands at the last spot
pub data Going (e : Expr) : Spot e → List ℕ → ℕ → Spot e → Type 0 where
  done : (k : Spot e) → Going e k [] 0 k
  stuck : (k : Spot e) (c : ℕ) (events : List ℕ) → NoWay e k c → Going e k (c ∷ events) 0 k
  more : (k j : Spot e) (c : ℕ) (events : List ℕ) (n q : ℕ) (t : Place e) → Part 0 e q (event c) → LeadsTo e k q t
      → Going e (behind t) events n j → Going e k (c ∷ events) (suc n) j

-- how a run stands that has taken t of n events and stands at the spot
pub data VerdictAt (e : Expr) (k : Spot e) (t n : ℕ) : Verdict → Type 0 where
  complete_at : t ≡ n → CanStop e k → VerdictAt e k t n Complete
  unfinished_at : t ≡ n → ¬ CanStop e k → VerdictAt e k t n Unfinished
  broken_at : t < n → VerdictAt e k t n Broken
