use Rattle.crawl_tie.proofs.Steps.{histories_are_runs}
use Rattle.crawl_tie.proofs.laws.histories_are_runs.Goals as goal

pub returns : goal.returns
returns c = histories_are_runs
