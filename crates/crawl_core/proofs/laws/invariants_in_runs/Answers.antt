use Rattle.crawl_core.proofs.RunLaws.{gate_invariant, subqueue_invariant, state_of_history}
use Rattle.crawl_core.proofs.RunParts.{reports_units, reports_closing}
use Rattle.crawl_core.proofs.laws.invariants_in_runs.Goals as goal

pub returns-clause-gate : goal.returns-clause-gate
returns-clause-gate c = gate_invariant

pub returns-clause-subqueues : goal.returns-clause-subqueues
returns-clause-subqueues c = subqueue_invariant

pub returns-clause-history : goal.returns-clause-history
returns-clause-history c = state_of_history

pub returns-clause-reported : goal.returns-clause-reported
returns-clause-reported c = reports_units

pub returns-clause-reported_closing : goal.returns-clause-reported_closing
returns-clause-reported_closing c = reports_closing
