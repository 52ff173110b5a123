-- `prompt::light::lit_after` meets its contract. The invariant: the set has the codes of the event nodes passed that are near.
use Rattle.prompt.specs.Near.{CodesNear}
use Rattle.prompt.proofs.light.lit_after.Given as goal

abbrev pub invariant-loop-q : goal.invariant-loop-q
invariant-loop-q l = CodesNear l.plan l.p l.q l.lit
