use Rattle.check_report.specs.Page.{count_items, page_start, page_total}
use Rattle.check_report.proofs.Adding.{last_joined}
use Rattle.check_report.proofs.as_page.put_total.Goals as goal

pub returns : goal.returns
unfolding page_total
returns c =
    last_joined c.put_count_items.result c.args.out.now.items c.put_start.new.out.items c.put_count_items.new.out.items (page_start c.args.base.now c.args.totals)
    (count_items c.args.totals c.args.counts) c.in_ok-put_start.ensures c.put_count_items.ensures
