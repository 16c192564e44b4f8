use Rattle.crawl_session.specs.Listing.{pending_at}
use Rattle.crawl_session.proofs.Listing.{each_more}
use Rattle.crawl_session.proofs.list.Lister.pending.Goals as goal

pub loop-queue-preserved : goal.loop-queue-preserved
loop-queue-preserved g c =
    let written = g.O.Write.contents in
    each_more c.args.self.now.form pending_at c.loop-queue.queue c.args.session.now c.loop-queue.session c.drain.new.session (written c.args.out.now) (written c.loop-queue.out) (written c.drain.new.out) c.loop-queue.invariant c.in_ok-drain.ensures
