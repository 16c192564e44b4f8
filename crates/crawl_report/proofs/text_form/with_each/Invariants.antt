use Rattle.crawl_report.proofs.Prelude.{take, Adds, result_lines, pointed}
use Rattle.crawl_report.proofs.text_form.with_each.Given as goal

abbrev pub invariant-loop-one : goal.invariant-loop-one
invariant-loop-one l = Adds l.fn.out l.out (result_lines (pointed (take l.one-index l.results)))
