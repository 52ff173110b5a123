use mathlib.Core.Path.{◌≡◌, subst}
use mathlib.Core.List.{◌∷◌}
use native.Mathlib.Omega.{arith}
use Rattle.std.proofs.Common.{rules}
use Rattle.states.proofs.StateBytes.{Filled, filled_twos}
use Rattle.states.specs.StateBytes.{place_of}
use Rattle.states.proofs.standing.Standing.encode.Goals as goal

pub returns : goal.returns
returns c =
    let same : c.map_or-place.result ≡ place_of c.args.self.now.reached = search rules in
    let numbers = c.map_or-place.result ∷ c.args.self.now.counts in
    rw same at (filled_twos c.loop-rank.bytes numbers (omega arith) (subst (Filled c.loop-rank.bytes numbers) (omega arith) c.loop-rank.invariant.1))
