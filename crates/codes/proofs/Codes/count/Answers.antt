-- `Codes::count` meets its contract: those of the low word and those of the high word. Assumes nothing.
use native.Mathlib.Omega.{arith}
use Rattle.codes.proofs.Pairs.{count_in_words}
use Rattle.codes.proofs.Codes.count.Goals as goal

pub returns : goal.returns
returns c = count_in_words c.args.self (omega arith) (omega arith)
