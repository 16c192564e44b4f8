use Rattle.crawl_tie.proofs.Shown.{counts_units, lists_keep}
use Rattle.crawl_tie.proofs.laws.invariants_shown.Goals as goal

pub returns-clause-gate : goal.returns-clause-gate
returns-clause-gate c = counts_units

pub returns-clause-subqueues : goal.returns-clause-subqueues
returns-clause-subqueues c = lists_keep
