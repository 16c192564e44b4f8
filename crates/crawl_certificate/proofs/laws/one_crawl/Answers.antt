use Rattle.crawl_certificate.proofs.OneCrawl.{one_crawl}
use Rattle.crawl_certificate.proofs.laws.one_crawl.Goals as goal

pub returns : goal.returns
returns c = one_crawl
