use Rattle.crawl_session.specs.Listing.{Lists, stats_below}
use Rattle.crawl_session.proofs.list.Lister.stats_by_queue.Given as goal

abbrev pub invariant-loop-queue : goal.invariant-loop-queue
invariant-loop-queue g l = Lists l.self.form (stats_below l.queue) l.initial.session (g.O.Write.contents l.initial.out) (g.O.Write.contents l.out) l.session
