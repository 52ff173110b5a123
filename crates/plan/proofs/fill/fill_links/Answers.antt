-- `plan::fill::fill_links` meets its contract: the root is told of the top, and the pass goes down from it.
use Rattle.procedure.proofs.Nodes.{listing_some}
use Rattle.plan.proofs.Whole.{plans_made}
use Rattle.plan.proofs.fill.fill_links.Goals as goal

pub overflow_sub-root : goal.overflow_sub-root
overflow_sub-root c = listing_some c.requires.3.listing

pub returns : goal.returns
returns c = λ starts repeats e t. plans_made c.args.links.now c.told-links t c.tell.ensures c.fill_down.ensures
