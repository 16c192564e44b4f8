use Rattle.crawl_certificate.proofs.Crawls.{whole_crawl}
use Rattle.crawl_certificate.proofs.laws.crawl_result.Goals as goal

pub returns : goal.returns
returns c = whole_crawl
