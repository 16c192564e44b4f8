use Rattle.crawl_gate.specs.Seat.{IsSeatOf}
use Rattle.crawl_gate_tests.proofs.tests.pool.work.Given as goal

abbrev pub invariant-loop : goal.invariant-loop
invariant-loop g l =
    (goal.iterator-loop g).can_next l.iterator' × (goal.iterator-loop g).is_finite l.iterator' × IsSeatOf l.gate l.pass
