-- `judge::refusal_of` meets its contract. Assumes nothing.
use mathlib.Core.Logic.Iff
use native.Mathlib.Omega.{arith}
use Rattle.codes.proofs.Pairs.{words_set}
use Rattle.judge.specs.Admission.{tells}
use Rattle.judge.proofs.refusal_of.Goals as goal

pub returns : goal.returns
returns c =
    let set = words_set c.args.conflict.shared (omega arith) (omega arith) (λ d. Iff.rfl) in
    tells c.from.result c.count.result (rw (c.from.ensures.0, c.from.ensures.1) set) c.count.ensures
