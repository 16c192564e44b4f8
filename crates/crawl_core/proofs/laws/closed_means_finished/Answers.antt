use Rattle.crawl_core.proofs.RunLaws.{closed_means_finished, drained, all_done}
use Rattle.crawl_core.proofs.laws.closed_means_finished.Goals as goal

pub returns-clause-drained : goal.returns-clause-drained
returns-clause-drained c = drained

pub returns-clause-done : goal.returns-clause-done
returns-clause-done c = all_done

pub returns-clause-finished : goal.returns-clause-finished
returns-clause-finished c = closed_means_finished
