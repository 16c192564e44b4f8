use Rattle.crawl_session.specs.Rebuilding.{CollectsQueues}
use Rattle.crawl_session.proofs.inventory.pending.Given as goal

abbrev pub invariant-loop-queue : goal.invariant-loop-queue
invariant-loop-queue l = CollectsQueues l.queue l.initial.session l.queues.items l.session
