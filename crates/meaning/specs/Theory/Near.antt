-- No promise, a model of the prompt in our code: the way in the loosened procedure, where the counters do not matter.
use Rattle.std.proofs.Common.{inl, inr}
use Rattle.std.specs.Prelude.{true, cond, ℕ, ◌+◌}
use Rattle.meaning.specs.Expr.{Expr, empty, event, choice, sequence, repeat, size}
use Rattle.meaning.specs.Normal.{nullable}
use Rattle.meaning.specs.Loose.{many}
use Rattle.meaning.specs.Theory.Places.{Place}
use Rattle.meaning.specs.Theory.Ways.{apart, entry, Way, ends, stuck, map_way, climb, Turned}

-- the turn leads there, to whatever place
abbrev pub there : {A : Type 0} → A → Unit {0}
there a = tt

-- the way from a place towards event node q in the loosened part: a repeat may end after each of its blocks, and begin another
-- where upper is at least 2, so the counters do not matter
abbrev pub near : ℕ → (e : Expr) → Place e → ℕ → Way (Unit {0})
near s empty p q = stuck
near s (event c) p q = ends
near s (choice l r) (inl p) q = map_way there (near s l p q) ends
near s (choice l r) (inr p) q = map_way there (near (s + size l) r p q) ends
near s (sequence l r) (inl p) q = climb there (near s l p q) there (entry (s + size l) r q) (nullable r)
near s (sequence l r) (inr p) q = map_way there (near (s + size l) r p q) ends
near s (repeat b lower upper) p q = climb there (near s b p.0 q) there (cond (many upper) (entry s b q) apart) true

-- event node q can directly follow that of the place in the loosened part
abbrev pub Near : ℕ → (e : Expr) → Place e → ℕ → Type 0
Near s e p q = Turned (near s e p q)
