use Rattle.crawl_core.proofs.RunLaws.{empty_means_taken}
use Rattle.crawl_core.proofs.laws.empty_means_taken.Goals as goal

pub returns : goal.returns
returns c = empty_means_taken
