use Rattle.result_order.proofs.SortedParts.{alike_up_to}
use Rattle.result_order.proofs.beginning.beginning_of.Goals as goal

pub returns-clause-alike : goal.returns-clause-alike
returns-clause-alike c = alike_up_to c.args.from c.alike_in_all.result _ c.args.pages.now c.requires.alike c.alike_in_all.ensures.alike
