use Rattle.check_report.proofs.Sorting.{natural_exact}
use Rattle.check_report.proofs.laws.natural_order_is_total.Goals as goal

pub returns-clause-exact : goal.returns-clause-exact
returns-clause-exact c = natural_exact
