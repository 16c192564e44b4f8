use Rattle.mercator.proofs.SiteCrawls.{one_report, one_site_crawl}
use Rattle.mercator.proofs.PlanTexts.{one_output}
use Rattle.mercator.proofs.laws.same_bytes_for_any_workers.Goals as goal

pub returns-clause-pages : goal.returns-clause-pages
returns-clause-pages c = one_site_crawl

pub returns-clause-reports : goal.returns-clause-reports
returns-clause-reports c = one_report

pub returns-clause-outputs : goal.returns-clause-outputs
returns-clause-outputs c = one_output
