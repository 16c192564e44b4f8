use Rattle.check_report.proofs.Adding.{last_joined}
use Rattle.check_report.proofs.as_junit.put_start.Goals as goal

pub returns : goal.returns
returns c = last_joined c.put_hint_suite.result c.args.out.now.items c.put.new.out.items c.put_hint_suite.new.out.items _ _ c.in_ok-put.ensures c.put_hint_suite.ensures
