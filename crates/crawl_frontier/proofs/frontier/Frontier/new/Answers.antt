use Rattle.crawl_frontier.proofs.Prelude.{◌∙◌, List, ap, subst, QueueId, ListsAre, AllPush, AllPop}
use Rattle.crawl_frontier.specs.SetupId.{SetupId}
use Rattle.crawl_frontier.proofs.Lines.{line-push, line-pop}
use Rattle.crawl_frontier.proofs.frontier.Frontier.new.Goals as goal

pub shards-requires-clause-push : goal.shards-requires-clause-push
shards-requires-clause-push g c =
    let s = c.setup.inside in
    let is = c.setup.view_is in
    subst (λ (y : SetupId). AllPush y.gate y.workers y.queues 0 s.push_rights.items) (λ i. record { workers = (ap (λ z. z.workers) is ∙ c.requires.workers) i; gate = (ap (λ z. z.gate) is ∙ c.requires.gate) i; queues = (ap (λ z. z.queues) is ∙ c.requires.queues) i })
    (line-push _ _ _ _ _ _ c.setup.invariant.3)

pub workers-requires-clause-pop : goal.workers-requires-clause-pop
workers-requires-clause-pop g c =
    let s = c.setup.inside in
    let is = c.setup.view_is in
    subst (λ (y : SetupId). AllPop y.gate y.workers y.queues 0 s.pop_rights.items) (λ i. record { workers = (ap (λ z. z.workers) is ∙ c.requires.workers) i; gate = (ap (λ z. z.gate) is ∙ c.requires.gate) i; queues = (ap (λ z. z.queues) is ∙ c.requires.queues) i })
    (line-pop _ _ _ _ _ _ c.setup.invariant.3)

pub new-requires-clause-len : goal.new-requires-clause-len
new-requires-clause-len g c = c.setup.invariant.4 ∙ (ap (λ z. z.workers) c.setup.view_is ∙ c.requires.workers)

pub new-requires-clause-lists : goal.new-requires-clause-lists
new-requires-clause-lists g c =
    subst (λ (qs : List QueueId). ListsAre qs c.setup.inside.learned.items) (ap (λ z. z.queues) c.setup.view_is ∙ c.requires.queues) c.setup.invariant.5
