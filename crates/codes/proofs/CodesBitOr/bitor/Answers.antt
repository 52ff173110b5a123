-- `|` on sets meets its contract, word by word. Assumes nothing.
use native.Mathlib.Omega.{arith}
use Rattle.codes.proofs.Pairs.{union_contains}
use Rattle.codes.proofs.CodesBitOr.bitor.Goals as goal

pub returns : goal.returns
returns c = union_contains c.args.self c.args.other (omega arith) (omega arith)
