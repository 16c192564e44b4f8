use Rattle.check_report.proofs.Prelude.{arith, length, nat_tests, ◌<◌}
use Rattle.check_report.proofs.Runs.{numbers_first}
use Rattle.check_report.proofs.natural.first_cmp.Goals as goal

pub returns : goal.returns
returns c =
    let one : 0 < length c.digits-one.result.now = grind (arith, nat_tests) in
    let other : 0 < length c.digits-other.result.now = grind (arith, nat_tests) in
    numbers_first c.args.left.now c.args.right.now c.digits-one.result.now c.digits-other.result.now c.number_cmp.result c.digits-one.ensures c.digits-other.ensures one other c.number_cmp.ensures
