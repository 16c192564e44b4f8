use Rattle.crawl_run.proofs.LostUrls.{lost_urls}
use Rattle.crawl_run.proofs.laws.urls_without_a_result_are_lost.Goals as goal

pub returns : goal.returns
returns c = lost_urls
