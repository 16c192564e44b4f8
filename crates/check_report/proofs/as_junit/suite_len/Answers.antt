use Rattle.check_report.proofs.Suites.{more_in_file}
use Rattle.check_report.proofs.as_junit.suite_len.Goals as goal

pub returns : goal.returns
returns c = more_in_file c.args.links.now c.index-links-0.result c.links_in.result c.requires c.links_in.ensures
