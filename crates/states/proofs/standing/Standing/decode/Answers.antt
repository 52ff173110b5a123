use mathlib.Core.Path.{subst, ◌∙◌}
use native.Mathlib.Omega.{arith}
use Rattle.states.proofs.StateBytes.{Read, place_back, read_decoded}
use Rattle.states.proofs.standing.Standing.decode.Goals as goal

pub returns : goal.returns
returns c =
    read_decoded c.args.bytes.now c.loop-rank.count-items (λ k. (c.type_inv.bytes k).fits) c.loop-rank-test.array_long
    (subst (Read c.args.bytes.now c.loop-rank.count-items) (omega arith) c.loop-rank.invariant) c.requires _
    (place_back _ _ c.checked_sub.ensures ∙ c.from.ensures ∙ c.two_at-2.ensures)
