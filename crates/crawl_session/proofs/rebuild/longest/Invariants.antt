use Rattle.crawl_session.proofs.Prelude.{◌≡◌, take}
use Rattle.crawl_session.specs.Rebuilding.{longest}
use Rattle.crawl_session.proofs.rebuild.longest.Given as goal

abbrev pub invariant-loop-queue : goal.invariant-loop-queue
invariant-loop-queue l = l.longest ≡ longest (take l.queue-index l.queues)
