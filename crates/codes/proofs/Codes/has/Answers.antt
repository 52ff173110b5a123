-- `Codes::has` meets its contract: the one word or the other decides, and nothing from 128 on is in a set. Assumes nothing.
use mathlib.Core.Logic.Iff
use native.Mathlib.Omega.{arith}
use Rattle.std.proofs.lemmas.Bool.Decides.{Decides-eqb}
use Rattle.meaning.specs.Codes.{Has}
use Rattle.codes.proofs.Pairs.{high_contains, low_contains, past_words}
use Rattle.codes.proofs.Codes.has.Goals as goal

pub returns-then-code-lt-BITS : goal.returns-then-code-lt-BITS
unfolding Has
returns-then-code-lt-BITS c = Iff.trans (Decides-eqb _ _) (low_contains c.args.self c.args.code c.if-code-lt-BITS.true)

pub returns-then-code-lt-BITS-2 : goal.returns-then-code-lt-BITS-2
unfolding Has
returns-then-code-lt-BITS-2 c =
    Iff.trans (Decides-eqb _ _) (high_contains c.args.self c.args.code (omega arith) c.if-code-lt-BITS.false)

pub returns-else-code-lt-BITS-2 : goal.returns-else-code-lt-BITS-2
returns-else-code-lt-BITS-2 c =
    (λ e. absurd (cc), λ h. absurd (past_words c.args.self c.args.code (omega arith) (omega arith) c.if-code-lt-BITS-2.false h))
