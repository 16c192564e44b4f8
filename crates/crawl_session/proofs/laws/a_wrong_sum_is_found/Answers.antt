use Rattle.crawl_session.proofs.SumLaws.{wrong_is_found}
use Rattle.crawl_session.proofs.laws.a_wrong_sum_is_found.Goals as goal

pub returns : goal.returns
returns c = wrong_is_found
