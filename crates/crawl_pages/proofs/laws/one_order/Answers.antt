use Rattle.crawl_pages.specs.ResultOrder.{is_before}
use Rattle.crawl_pages.proofs.StableSort.{IsPermutation-stable_sort}
use Rattle.crawl_pages.proofs.OrderLaws.{results_by_url-in_order, results_by_url-only}
use Rattle.crawl_pages.proofs.laws.one_order.Goals as goal

pub returns-clause-all : goal.returns-clause-all
returns-clause-all c = IsPermutation-stable_sort is_before

pub returns-clause-in_order : goal.returns-clause-in_order
returns-clause-in_order c = results_by_url-in_order

pub returns-clause-only : goal.returns-clause-only
returns-clause-only c = results_by_url-only
