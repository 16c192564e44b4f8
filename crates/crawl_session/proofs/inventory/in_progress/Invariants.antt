use Rattle.crawl_session.specs.Listing.{in_progress_below}
use Rattle.crawl_session.specs.Rebuilding.{Collects}
use Rattle.crawl_session.proofs.inventory.in_progress.Given as goal

abbrev pub invariant-loop-queue : goal.invariant-loop-queue
invariant-loop-queue l = Collects (in_progress_below l.queue) l.initial.session l.urls.items l.session
