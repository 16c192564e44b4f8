use Rattle.crawl_session.proofs.Prelude.{Some, stats_at}
use Rattle.crawl_session.proofs.Listing.{each_more}
use Rattle.crawl_session.proofs.list.Lister.stats_by_queue.Goals as goal

pub loop-queue-preserved : goal.loop-queue-preserved
loop-queue-preserved g c =
    let written = g.O.Write.contents in
    each_more c.args.self.now.form (λ mid queue. stats_at mid (Some queue)) c.loop-queue.queue c.args.session.now c.loop-queue.session c.stats_of.new.session (written c.args.out.now) (written c.loop-queue.out) (written c.stats_of.new.out) c.loop-queue.invariant c.in_ok-stats_of.ensures
