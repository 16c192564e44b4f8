use Rattle.crawl_queues.proofs.Prelude.{rules, ap, subst, ListView, Stays}
use Rattle.crawl_queues.specs.Known.{KnownList}
use Rattle.crawl_queues.proofs.Moves.{compares, hands_in}
use Rattle.crawl_queues.proofs.growing.Growing.compare.Goals as goal

pub join_seat-requires : goal.join_seat-requires
join_seat-requires c = (search rules, search rules, search rules, search rules, hands_in _ _ _ _ c.owner.invariant.0)

pub load-requires : goal.load-requires
load-requires c = (search rules, search rules, compares _ _ _ (ap (λ (m : _). m.0.owns) c.join_seat.ensures.2))

pub returns-clause-stays : goal.returns-clause-stays
returns-clause-stays c =
    subst (λ (y : KnownList × KnownList). Stays y.0.items y.1.items) (λ i. (c.known.view_is i, c.owner.view_is i))
    (subst (λ (u : ListView). Stays u.begins u.all) (ap (λ (m : _). m.0) c.join_seat.ensures.2) c.load.ensures.2.0)
