use Rattle.check_report.proofs.Prelude.{arith, external, map}
use Rattle.check_report.proofs.Adding.{row_more, rows_all}
use Rattle.check_report.proofs.printing.put_urls.Goals as goal

pub loop-url-preserved : goal.loop-url-preserved
loop-url-preserved c =
    row_more c.args.form external c.args.out.now.items c.loop-url.out.items c.put_row.new.out.items c.args.urls.now c.loop-url.url-index c.url-item.result c.loop-url-test.true c.url-item.is c.loop-url.invariant
    c.in_ok-put_row.ensures

pub returns : goal.returns
returns c = rows_all c.args.form (map external) c.args.out.now.items c.loop-url.out.items c.args.urls.now c.loop-url.url-index (omega arith) c.loop-url.invariant
