use Rattle.crawl_session.specs.Listing.{in_progress_at}
use Rattle.crawl_session.proofs.Rebuilding.{collects_row}
use Rattle.crawl_session.proofs.inventory.in_progress.Goals as goal

pub loop-queue-preserved : goal.loop-queue-preserved
loop-queue-preserved c =
    rw (c.in_ok-push_url.ensures) (collects_row in_progress_at c.loop-queue.queue c.args.session.now c.loop-queue.session c.again.new.session c.loop-queue.urls.items c.in_ok-row.row c.loop-queue.invariant c.in_ok-row.ensures)
