use Rattle.crawl_core.proofs.RunParts.{some_run, one_run}
use Rattle.crawl_core.proofs.laws.one_run.Goals as goal

pub returns-clause-some : goal.returns-clause-some
returns-clause-some c = some_run

pub returns-clause-one : goal.returns-clause-one
returns-clause-one c = one_run
