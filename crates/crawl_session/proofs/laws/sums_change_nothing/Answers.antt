use Rattle.crawl_session.proofs.SumReplays.{sums_change_nothing}
use Rattle.crawl_session.proofs.laws.sums_change_nothing.Goals as goal

pub returns : goal.returns
returns c = sums_change_nothing
