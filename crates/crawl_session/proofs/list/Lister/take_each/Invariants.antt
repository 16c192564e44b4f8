use Rattle.crawl_session.specs.Listing.{Lists, taken_each}
use Rattle.crawl_session.proofs.list.Lister.take_each.Given as goal

abbrev pub invariant-loop-url : goal.invariant-loop-url
invariant-loop-url g l = Lists l.self.form (taken_each l.queue l._url) l.initial.session (g.O.Write.contents l.initial.out) (g.O.Write.contents l.out) l.session
