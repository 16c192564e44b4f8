use Rattle.crawl_certificate.specs.ResultPages.{page_in}
use Rattle.crawl_certificate.proofs.Certified.{no_error, results_reached}
use Rattle.crawl_certificate.proofs.Crawls.{own_pages, entries_walk}
use Rattle.crawl_certificate.proofs.laws.no_fault_means_reached.Goals as goal

pub returns-clause-urls : goal.returns-clause-urls
returns-clause-urls c = λ allowed seeds entries results none.
    results_reached (page_in results) allowed seeds entries results (own_pages allowed seeds entries results none) (no_error allowed seeds entries results none)

pub returns-clause-hops : goal.returns-clause-hops
returns-clause-hops c = entries_walk
