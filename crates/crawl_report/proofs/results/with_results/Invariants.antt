use Rattle.crawl_report.proofs.Prelude.{take, Adds, result_lines}
use Rattle.crawl_report.proofs.results.with_results.Given as goal

abbrev pub invariant-loop-index : goal.invariant-loop-index
invariant-loop-index l = Adds l.fn.out l.out (result_lines (take l.index l.pages))
