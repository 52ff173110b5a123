use Rattle.states.proofs.Stands.{listed_inner}
use Rattle.states.proofs.reached.all_fit.Goals as goal

pub fits-requires-clause-y_in_bounds : goal.fits-requires-clause-y_in_bounds
fits-requires-clause-y_in_bounds c = rw c.from-repeat.ensures (listed_inner c.requires.1 c.loop-rank.rank c.loop-rank-test.true)

pub fits-requires-clause-is_repeat : goal.fits-requires-clause-is_repeat
fits-requires-clause-is_repeat c = rw c.from-repeat.ensures ((c.requires.1.ranked.each c.loop-rank.rank c.loop-rank-test.true).repeats)
