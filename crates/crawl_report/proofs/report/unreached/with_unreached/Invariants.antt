use Rattle.crawl_report.proofs.Prelude.{take, map, Adds, pointed}
use Rattle.crawl_report.specs.Lines as line
use Rattle.crawl_report.proofs.report.unreached.with_unreached.Given as goal

abbrev pub invariant-loop-url : goal.invariant-loop-url
invariant-loop-url l = Adds l.fn.out l.out (map line.unreached (pointed (take l.url-index l.urls)))
