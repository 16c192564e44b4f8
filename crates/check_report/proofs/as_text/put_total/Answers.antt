use Rattle.check_report.specs.Text.{broken_total, site_total, total_text}
use Rattle.check_report.proofs.Adding.{last_joined}
use Rattle.check_report.proofs.as_text.put_total.Goals as goal

pub returns : goal.returns
unfolding total_text
returns c =
    last_joined c.put_broken_total.result c.args.out.now.items c.put_site_total.new.out.items c.put_broken_total.new.out.items (site_total c.args.totals c.args.counts)
    (broken_total c.args.colour c.args.totals) c.in_ok-put_site_total.ensures c.put_broken_total.ensures
