use Rattle.crawl_certificate.proofs.SameCrawl.{same_crawl}
use Rattle.crawl_certificate.proofs.laws.same_crawl.Goals as goal

pub returns : goal.returns
returns c = same_crawl
