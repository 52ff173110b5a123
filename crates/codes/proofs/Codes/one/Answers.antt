-- `Codes::one` meets its contract: the code stands in the one word or in the other. Assumes nothing.
use Rattle.codes.proofs.Pairs.{high_only, low_only}
use Rattle.codes.proofs.Codes.one.Goals as goal

pub returns-then-code-lt-BITS : goal.returns-then-code-lt-BITS
returns-then-code-lt-BITS c = low_only c.args.code c.if-code-lt-BITS.true

pub returns-else-code-lt-BITS : goal.returns-else-code-lt-BITS
returns-else-code-lt-BITS c = high_only c.args.code c.if-code-lt-BITS.false c.requires
