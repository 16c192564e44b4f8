use Rattle.crawl_tie.proofs.Owners.{whose, pushed_held}
use Rattle.crawl_tie.proofs.Steps.{parts_keep}
use Rattle.crawl_tie.proofs.laws.units_are_owned.Goals as goal

pub returns-clause-always : goal.returns-clause-always
returns-clause-always c = parts_keep

pub returns-clause-whose : goal.returns-clause-whose
returns-clause-whose c = whose

pub returns-clause-pushed : goal.returns-clause-pushed
returns-clause-pushed c = pushed_held
