use Rattle.crawl_gate.proofs.Trying.{LostSoFarHolding}
use Rattle.crawl_gate.proofs.gate.Gate.enter_beside.Given as goal

abbrev pub invariant-loop : goal.invariant-loop
invariant-loop g l =
    (goal.iterator-loop g).can_next l.iterator' × (goal.iterator-loop g).is_finite l.iterator'
    × LostSoFarHolding l.initial.held l.held l.fn.pass l.pass
