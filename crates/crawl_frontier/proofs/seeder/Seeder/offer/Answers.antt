use Rattle.crawl_frontier.proofs.Prelude.{subst, SeederId, OfferWordsHolding}
use Rattle.crawl_frontier.proofs.seeder.Seeder.offer.Goals as goal

pub returns-clause-words : goal.returns-clause-words
returns-clause-words g c =
    let new = c.offer_with_unit-outcome.new in
    subst (λ (s : SeederId). OfferWordsHolding s.opening new.held s.seat new.pass c.offer_with_unit-outcome.result.0) c.self.view_is c.offer_with_unit-outcome.ensures.words
