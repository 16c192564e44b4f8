use Rattle.check_report.proofs.Prelude.{arith, length, ◌<◌}
use Rattle.check_report.proofs.Suites.{front_some, suite_fits, suite_put_at}
use Rattle.check_report.proofs.as_junit.put_suite_at.Goals as goal

pub split_at-requires-2 : goal.split_at-requires-2
split_at-requires-2 c = omega (arith, c.suite_len-count.ensures, suite_fits c.split_at.result.1.now)

pub put_file_suite-requires : goal.put_file_suite-requires
put_file_suite-requires c =
    let some : 0 < length c.split_at.result.1.now = omega (arith, c.split_at.ensures.back_len, c.requires) in
    front_some c.split_at.result.1.now c.split_at-2.result.0.now c.suite_len-count.result c.split_at-2.ensures.front c.suite_len-count.ensures some

pub returns-clause-suites : goal.returns-clause-suites
returns-clause-suites c =
    let rest = c.split_at.result.1.now in
    let some : 0 < length rest = omega (arith, c.split_at.ensures.back_len, c.requires) in
    suite_put_at c.args.folder.now c.args.out.now.items c.put_file_suite.new.out.items c.args.links.now rest c.split_at-2.result.0.now c.args.start c.suite_len-count.result c.split_at.ensures.back c.split_at-2.ensures.front
    c.suite_len-count.ensures some c.in_ok-put_file_suite.ensures
