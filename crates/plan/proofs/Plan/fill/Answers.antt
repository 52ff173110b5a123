-- `plan::Plan::fill` meets its contract: the links that are filled are those of the plan.
use Rattle.procedure.proofs.Nodes.{listing_some}
use Rattle.plan.proofs.Whole.{rises}
use Rattle.plan.proofs.Plan.fill.Goals as goal

pub fill_links-requires : goal.fill_links-requires
fill_links-requires c = (_, _, c.requires.0, c.requires.1)

pub invariant_of-result : goal.invariant_of-result
invariant_of-result c =
    let t = c.requires.1 in record {
      some = listing_some t.listing;
      few = t.listing.few;
      rises = rises (c.fill_links.ensures _ _ _ t);
    }

pub returns-clause-plans : goal.returns-clause-plans
returns-clause-plans c = λ e t. c.fill_links.ensures _ _ e t
