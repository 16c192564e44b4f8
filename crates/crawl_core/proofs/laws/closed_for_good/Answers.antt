use Rattle.crawl_core.proofs.RunLaws.{closed_for_good}
use Rattle.crawl_core.proofs.laws.closed_for_good.Goals as goal

pub returns : goal.returns
returns c = closed_for_good
