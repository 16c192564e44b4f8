use Rattle.crawl_core.proofs.RunLaws.{seen_means_accepted}
use Rattle.crawl_core.proofs.laws.seen_means_accepted.Goals as goal

pub returns : goal.returns
returns c = seen_means_accepted
