use Rattle.std.proofs.Common.{ap}
use Rattle.crawl_queues.proofs.Passing.{unites, compares}
use Rattle.crawl_queues.proofs.subqueue.Subqueue.held.Goals as goal

pub absorb-requires-clause-rule : goal.absorb-requires-clause-rule
absorb-requires-clause-rule c = unites _ _ _ _ c.push.invariant.2 c.pop.invariant.2

pub is_empty_as-requires-clause-rule : goal.is_empty_as-requires-clause-rule
is_empty_as-requires-clause-rule c =
    let is = c.absorb.ensures.rule in
    compares _ _ (ap (λ v. v.sends) is) (ap (λ v. v.takes) is)
