-- `Codes::lowest` meets its contract: the lowest of the low word, or else that of the high word. Assumes nothing.
use native.Mathlib.Omega.{arith}
use Rattle.codes.proofs.Pairs.{lowest_in_high, lowest_in_low, none_contains}
use Rattle.codes.proofs.Codes.lowest.Goals as goal

pub returns-then-self-ne0 : goal.returns-then-self-ne0
returns-then-self-ne0 c = lowest_in_low c.args.self (omega arith) c.if-self-ne0.true

pub returns-then-self-ne0-2 : goal.returns-then-self-ne0-2
returns-then-self-ne0-2 c = lowest_in_high c.args.self c.if-self-ne0.false (omega arith) c.if-self-ne0-2.true

pub returns-else-self-ne0-2 : goal.returns-else-self-ne0-2
returns-else-self-ne0-2 c = λ d. none_contains c.args.self d c.if-self-ne0.false c.if-self-ne0-2.false
