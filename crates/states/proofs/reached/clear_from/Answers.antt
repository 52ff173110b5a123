-- `states::reached::clear_from` meets its contract, by what `all` says of the counters from the rank on. Assumes nothing.
use Rattle.std.proofs.Common.{◌≡◌, drop, rules, tests, ◌∙◌}
use Rattle.std.proofs.lemmas.Iterator.{cases_from_all, YieldsList-from_slice}
use Rattle.std.proofs.lemmas.List.{take_rest}
use Rattle.states.proofs.RightCounts.{clear_tested}
use Rattle.states.proofs.reached.clear_from.Goals as goal

pub returns : goal.returns
returns c =
    let counts = c.args.counts.now in
    clear_tested counts c.args.rank c.all.result
    (cases_from_all _ _ _ (λ x. x ≡ 0) (λ x. ¬ (x ≡ 0)) c.all.ensures.ran
    (YieldsList-from_slice (drop c.args.rank counts) (c.iter.ensures.rest ∙ rw c.told-counts at (take_rest counts c.args.rank)))
    (λ x q k. search (rules, tests))
    (λ x q k. search (rules, tests)))
