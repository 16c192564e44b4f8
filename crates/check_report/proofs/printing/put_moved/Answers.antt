use Rattle.check_report.proofs.Prelude.{arith, map, redirect}
use Rattle.check_report.proofs.Adding.{row_more, rows_all}
use Rattle.check_report.proofs.printing.put_moved.Goals as goal

pub loop-page-preserved : goal.loop-page-preserved
loop-page-preserved c =
    row_more c.args.form redirect c.args.out.now.items c.loop-page.out.items c.put_row.new.out.items c.args.pages.now c.loop-page.page-index c.page-item.result c.loop-page-test.true c.page-item.is c.loop-page.invariant
    c.in_ok-put_row.ensures

pub returns : goal.returns
returns c = rows_all c.args.form (map redirect) c.args.out.now.items c.loop-page.out.items c.args.pages.now c.loop-page.page-index (omega arith) c.loop-page.invariant
