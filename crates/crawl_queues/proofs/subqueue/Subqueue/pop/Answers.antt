use Rattle.crawl_queues.proofs.Prelude.{◌≡◌, rules, ap, sym, ◌∙◌, popping, QueueId, PassId}
use Rattle.crawl_queues.proofs.Passing.{takes, counts}
use Rattle.crawl_queues.proofs.subqueue.Subqueue.pop.Goals as goal

pub pop_as-requires-clause-queue : goal.pop_as-requires-clause-queue
pop_as-requires-clause-queue g c =
    let same = ap (λ (p : PassId). p.subqueue) c.right.view_is ∙ (c.requires.subqueue ∙ sym c.self.view_is) in
    let web : c.right.inside.pass.web ≡ c.self.inside.line.web = ap (λ (q : QueueId). q.web) same in
    search (rules, web)

pub pop_as-requires-clause-rule : goal.pop_as-requires-clause-rule
pop_as-requires-clause-rule g c = (takes _ _ c.right.invariant.2, λ items views k at. tt)

pub another-spent-requires-clause-rule : goal.another-spent-requires-clause-rule
another-spent-requires-clause-rule g c =
    let e = c.in-None.ensures.rule.0 in
    counts _ _ (e ∙ c.right.invariant.2 ∙ ap (λ v. popping v.home v.taken v.empty_pops) (sym e))
