-- A repeat's bounds in normal form. A model of our code, and no promise.
use Rattle.std.specs.Prelude.{◌≡◌, Option, Some, None, ℕ}
use Rattle.meaning.specs.Expr.{Upper, upto, endless}
use Rattle.procedure.specs.declared.bounds.Bounds.{Bounds}

-- the upper bound that a number or none means
abbrev pub upper_of_most : Option ℕ → Upper
upper_of_most (Some n) = upto n
upper_of_most None = endless

abbrev pub upper : Bounds → Upper
upper b = upper_of_most b.most

-- these are the least number of blocks and the upper bound
pub record Normal (lower : ℕ) (bound : Upper) (b : Bounds) : Type 0 where
  pub least : b.least ≡ lower
  pub most : upper b ≡ bound
