use Rattle.crawl_gate.proofs.Trying.{LostSoFar}
use Rattle.crawl_gate.proofs.gate.Gate.enter.Given as goal

abbrev pub invariant-loop : goal.invariant-loop
invariant-loop g l =
    (goal.iterator-loop g).can_next l.iterator' × (goal.iterator-loop g).is_finite l.iterator' × LostSoFar l.fn.pass l.pass
