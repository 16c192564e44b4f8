use Rattle.crawl_session.proofs.SumLaws.{written_is_right}
use Rattle.crawl_session.proofs.laws.a_written_log_is_right.Goals as goal

pub returns : goal.returns
returns c = written_is_right
