-- `follow::run::tell_codes` meets its contract. The loop's invariant: the table has the codes of the event nodes below this one. Assumes
-- nothing.
use Rattle.follow.specs.Run.{TellsCodes}
use Rattle.follow.proofs.run.tell_codes.Given as goal

abbrev pub invariant-loop-q : goal.invariant-loop-q
invariant-loop-q l = TellsCodes l.plan.procedure.now.nodes l.codes l.q
