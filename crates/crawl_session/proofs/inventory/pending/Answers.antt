use Rattle.crawl_session.proofs.Rebuilding.{queues_more}
use Rattle.crawl_session.proofs.inventory.pending.Goals as goal

pub loop-queue-preserved : goal.loop-queue-preserved
loop-queue-preserved c =
    rw (c.in_ok-push_queue.ensures) (queues_more c.loop-queue.queue c.args.session.now c.loop-queue.session c.drain.new.session c.loop-queue.queues.items c.in_ok-urls.urls c.loop-queue.invariant c.in_ok-urls.ensures)
