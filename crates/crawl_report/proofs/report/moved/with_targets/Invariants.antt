use Rattle.crawl_report.proofs.Prelude.{take, true, Adds, moved_lines}
use Rattle.crawl_report.proofs.report.moved.with_targets.Given as goal

abbrev pub invariant-loop-one : goal.invariant-loop-one
invariant-loop-one l = Adds l.fn.out l.out (moved_lines true (take l.one-index l.pages))
