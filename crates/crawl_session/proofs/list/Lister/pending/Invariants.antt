use Rattle.crawl_session.specs.Listing.{Lists, pending_below}
use Rattle.crawl_session.proofs.list.Lister.pending.Given as goal

abbrev pub invariant-loop-queue : goal.invariant-loop-queue
invariant-loop-queue g l = Lists l.self.form (pending_below l.queue) l.initial.session (g.O.Write.contents l.initial.out) (g.O.Write.contents l.out) l.session
