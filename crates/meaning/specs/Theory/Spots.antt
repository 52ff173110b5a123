-- No promise, a notion of the proofs: spots, the start and the places as one.
use Rattle.std.proofs.Math.Bool.{So}
use Rattle.meaning.specs.Expr.{Expr}
use Rattle.meaning.specs.Normal.{nullable}
use Rattle.meaning.specs.Theory.Places.{Place, Sound, CanEnd}

-- the start, or the place just after an event
pub data Spot (e : Expr) : Type 0 where
  start : Spot e
  behind : Place e → Spot e

-- a reading may stop at the spot
abbrev pub CanStop : (e : Expr) → Spot e → Type 0
CanStop e start = So (nullable e)
CanStop e (behind p) = CanEnd e p

-- no repeat has begun too many blocks
abbrev pub Safe : (e : Expr) → Spot e → Type 0
Safe e start = Unit {0}
Safe e (behind p) = Sound e p
