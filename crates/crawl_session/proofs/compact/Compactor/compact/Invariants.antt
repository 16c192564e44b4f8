use Rattle.crawl_session.proofs.Prelude.{length, lines}
use Rattle.crawl_session.proofs.Compacted.{SoFar}
use Rattle.crawl_session.proofs.compact.Compactor.compact.Given as goal

abbrev pub invariant-loop-line : goal.invariant-loop-line
invariant-loop-line g l = SoFar l.initial.self l.initial.session (g.O.Write.contents l.initial.out) (lines l.log) (lines l.rest) l.self l.session (g.O.Write.contents l.out)

abbrev pub decreases-loop-line : goal.decreases-loop-line
decreases-loop-line g l = length l.rest
