use Rattle.crawl_core.proofs.RunLaws.{names_its_subqueue, was_admitted, message_was_admitted}
use Rattle.crawl_core.proofs.laws.admitted_before.Goals as goal

pub returns-clause-named : goal.returns-clause-named
returns-clause-named c = names_its_subqueue

pub returns-clause-accepted : goal.returns-clause-accepted
returns-clause-accepted c = message_was_admitted

pub returns-clause-taken : goal.returns-clause-taken
returns-clause-taken c = was_admitted
