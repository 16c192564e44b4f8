use Rattle.crawl_session.proofs.Prelude.{length, lines}
use Rattle.crawl_session.proofs.Listing.{ListsFront}
use Rattle.crawl_session.proofs.list.Lister.done.Given as goal

abbrev pub invariant-loop-line : goal.invariant-loop-line
invariant-loop-line g l = ListsFront l.self.form l.initial.session (g.O.Write.contents l.initial.out) (lines l.log) (lines l.rest) l.session (g.O.Write.contents l.out)

abbrev pub decreases-loop-line : goal.decreases-loop-line
decreases-loop-line g l = length l.rest
