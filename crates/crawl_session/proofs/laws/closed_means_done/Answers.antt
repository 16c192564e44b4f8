use Rattle.crawl_session.proofs.Emptied.{closed_for_good}
use Rattle.crawl_session.proofs.laws.closed_means_done.Goals as goal

pub returns-clause-for_good : goal.returns-clause-for_good
returns-clause-for_good c = closed_for_good
