-- What a test says of the fact that it decides. Assumes nothing.
use mathlib.Core.Path.{◌≡◌, refl, subst}
use mathlib.Core.Bool.{Bool, true, false, So, false≢true}
use mathlib.Core.Logic.{◌↔◌}
use Rattle.procedure.specs.Tests.{Decides}

-- the test `if b`
pub decides_so : (P : Type 0) (b : Bool) → Decides P b → So b ↔ P
decides_so P true d = (λ e. d, λ p. refl)
decides_so P false d = (λ e. absurd (false≢true e), λ p. absurd (d p))

-- past the test `if !b`
pub fails : (P : Type 0) (b : Bool) → Decides P b → b ≡ false → ¬ P
fails P b d e = subst (Decides P) e d

pub holds : (P : Type 0) (b : Bool) → Decides P b → b ≡ true → P
holds P b d e = subst (Decides P) e d
