use Rattle.crawl_session.proofs.PartLaws.{accepts_its_own}
use Rattle.crawl_session.proofs.laws.a_part_accepts_its_own.Goals as goal

pub returns : goal.returns
returns c = accepts_its_own
