use Rattle.crawl_session.proofs.Prelude.{length, lines}
use Rattle.crawl_session.proofs.Rebuilding.{ReadsFront}
use Rattle.crawl_session.proofs.inventory.Inventory.read.Given as goal

abbrev pub invariant-loop-line : goal.invariant-loop-line
invariant-loop-line l = ReadsFront l.initial.self l.initial.session (lines l.log) (lines l.rest) l.self l.session

abbrev pub decreases-loop-line : goal.decreases-loop-line
decreases-loop-line l = length l.rest
