-- `Codes::none` meets its contract. Assumes nothing.
use mathlib.Core.Path.{refl}
use Rattle.codes.specs.Codes.{no_codes}
use Rattle.codes.proofs.Pairs.{none_contains}
use Rattle.codes.proofs.Codes.none.Goals as goal

pub returns : goal.returns
returns c = λ d. none_contains no_codes d refl refl
