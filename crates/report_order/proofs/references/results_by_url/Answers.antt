use Rattle.std.proofs.Common.{arith}
use Rattle.std.proofs.lemmas.List.Sorted.{answers_always}
use Rattle.crawl_pages.proofs.OrderLaws.{references_rank, results_by_url-from_sort}
use Rattle.report_order.proofs.references.results_by_url.Goals as goal

pub returns : goal.returns
returns c = grind (arith, answers_always, results_by_url-from_sort, references_rank)
