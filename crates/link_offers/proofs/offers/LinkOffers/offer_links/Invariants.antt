use Rattle.link_offers.proofs.Prelude.{◌≡◌, take, allows, Knows, LinkResults}
use Rattle.link_offers.proofs.offers.LinkOffers.offer_links.Given as goal

abbrev pub invariant-loop-index : goal.invariant-loop-index
invariant-loop-index g l =
    (l.links ≡ l.fn.links)
    × (Knows g.K.Name.workers l.fn.busy.worker.book.log l.fn.self.recent
    → LinkResults g.K.Name.workers (allows g.K.Name.filter) (take l.index l.fn.links) l.fn.busy l.busy l.fn.self l.self)
