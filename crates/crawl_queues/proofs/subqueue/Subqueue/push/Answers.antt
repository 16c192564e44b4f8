use Rattle.crawl_queues.proofs.Prelude.{◌≡◌, ◌∙◌, rules, ap, sym, subst, IsSeatOf, PassView, MayFollow, QueueId, PassId}
use Rattle.crawl_queues.proofs.Passing.{sends}
use Rattle.crawl_queues.proofs.subqueue.Subqueue.push.Goals as goal

pub push_as-requires-clause-queue : goal.push_as-requires-clause-queue
push_as-requires-clause-queue g c =
    let same = ap (λ (p : PassId). p.subqueue) c.right.view_is ∙ (c.requires.subqueue ∙ sym c.self.view_is) in
    let web : c.right.inside.pass.web ≡ c.self.inside.line.web = ap (λ (q : QueueId). q.web) same in
    search (rules, web)

pub push_as-requires-clause-rule : goal.push_as-requires-clause-rule
push_as-requires-clause-rule g c =
    let is = sym (ap (λ p. p.view) c.right.view_is) in
    let x = c.args.message in
    λ n. sends n _ c.right.inside.pass.me.view.client x c.right.invariant.2
    (subst (λ (v : PassView). IsSeatOf v.home.gate x.unit) is c.requires.unit)
    (subst (λ (v : PassView). MayFollow v.home.workers v.home.queue v.sent x.entry) is c.requires.follows)

pub grow-requires : goal.grow-requires
grow-requires g c =
    let same = ap (λ (p : PassId). p.subqueue) c.right.view_is ∙ (c.requires.subqueue ∙ sym c.self.view_is) in
    ap (λ (q : QueueId). q.list) same
