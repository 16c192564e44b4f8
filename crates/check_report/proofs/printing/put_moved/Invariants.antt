use Rattle.check_report.proofs.Prelude.{take, map, Adds, redirect}
use Rattle.check_report.proofs.printing.put_moved.Given as goal

abbrev pub invariant-loop-page : goal.invariant-loop-page
invariant-loop-page l = Adds l.form l.fn.out.items l.out.items (map redirect (take l.page-index l.pages))
