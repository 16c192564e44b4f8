use Rattle.crawl_certificate.proofs.NothingLost.{nothing_lost}
use Rattle.crawl_certificate.proofs.laws.nothing_lost.Goals as goal

pub returns : goal.returns
returns c = nothing_lost
