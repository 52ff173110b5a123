-- `&` on sets meets its contract, word by word. Assumes nothing.
use native.Mathlib.Omega.{arith}
use Rattle.codes.proofs.Pairs.{shared_contains}
use Rattle.codes.proofs.CodesBitAnd.bitand.Goals as goal

pub returns : goal.returns
returns c = shared_contains c.args.self c.args.other (omega arith) (omega arith)
