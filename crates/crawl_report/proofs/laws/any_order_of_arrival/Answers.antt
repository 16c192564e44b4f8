use Rattle.crawl_report.proofs.ReportLaws.{report_permuted}
use Rattle.crawl_report.proofs.laws.any_order_of_arrival.Goals as goal

pub returns-clause-permuted : goal.returns-clause-permuted
returns-clause-permuted c = report_permuted
