use Rattle.crawl_session.specs.Listing.{in_progress_at}
use Rattle.crawl_session.proofs.Listing.{each_more}
use Rattle.crawl_session.proofs.list.Lister.in_progress.Goals as goal

pub loop-queue-preserved : goal.loop-queue-preserved
loop-queue-preserved g c =
    let written = g.O.Write.contents in
    each_more c.args.self.now.form in_progress_at c.loop-queue.queue c.args.session.now c.loop-queue.session c.busy_queue.new.session (written c.args.out.now) (written c.loop-queue.out) (written c.busy_queue.new.out) c.loop-queue.invariant c.in_ok-busy_queue.ensures
