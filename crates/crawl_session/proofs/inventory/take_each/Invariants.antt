use Rattle.crawl_session.specs.Listing.{taken_each}
use Rattle.crawl_session.specs.Rebuilding.{Collects}
use Rattle.crawl_session.proofs.inventory.take_each.Given as goal

abbrev pub invariant-loop-url : goal.invariant-loop-url
invariant-loop-url l = Collects (taken_each l.queue l._url) l.initial.session l.urls.items l.session
