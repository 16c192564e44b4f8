use Rattle.check_report.proofs.Prelude.{take, map, Adds, worst}
use Rattle.check_report.proofs.printing.put_counts.Given as goal

abbrev pub invariant-loop-count : goal.invariant-loop-count
invariant-loop-count l = Adds l.form l.fn.out.items l.out.items (map worst (take l.count-index l.counts))
