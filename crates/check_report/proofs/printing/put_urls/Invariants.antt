use Rattle.check_report.proofs.Prelude.{take, map, Adds, external}
use Rattle.check_report.proofs.printing.put_urls.Given as goal

abbrev pub invariant-loop-url : goal.invariant-loop-url
invariant-loop-url l = Adds l.form l.fn.out.items l.out.items (map external (take l.url-index l.urls))
