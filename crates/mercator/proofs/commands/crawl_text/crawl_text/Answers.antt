use Rattle.std.proofs.Common.{arith}
use Rattle.mercator.proofs.CrawlTexts.{text_reported, unreached_listed}
use Rattle.mercator.proofs.commands.crawl_text.crawl_text.Goals as goal

pub returns : goal.returns
returns g c = grind (arith, text_reported, unreached_listed)
