use Rattle.crawl_report.proofs.Prelude.{take, map, Adds, pointed}
use Rattle.crawl_report.specs.Lines as line
use Rattle.crawl_report.proofs.report.referrers.with_links.Given as goal

abbrev pub invariant-loop-page : goal.invariant-loop-page
invariant-loop-page l = Adds l.fn.out l.out (map (λ page. line.link page l.url) (pointed (take l.page-index l.pages)))
