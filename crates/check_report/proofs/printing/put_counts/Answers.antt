use Rattle.check_report.proofs.Prelude.{arith, map, worst}
use Rattle.check_report.proofs.Adding.{row_more, rows_all}
use Rattle.check_report.proofs.printing.put_counts.Goals as goal

pub loop-count-preserved : goal.loop-count-preserved
loop-count-preserved c =
    row_more c.args.form worst c.args.out.now.items c.loop-count.out.items c.put_row.new.out.items c.args.counts.now c.loop-count.count-index c.count-item.result c.loop-count-test.true c.count-item.is c.loop-count.invariant
    c.in_ok-put_row.ensures

pub returns : goal.returns
returns c = rows_all c.args.form (map worst) c.args.out.now.items c.loop-count.out.items c.args.counts.now c.loop-count.count-index (omega arith) c.loop-count.invariant
