use Rattle.crawl_report.proofs.OneOrder.{one_order}
use Rattle.crawl_report.proofs.laws.one_order.Goals as goal

pub returns : goal.returns
returns c = one_order
