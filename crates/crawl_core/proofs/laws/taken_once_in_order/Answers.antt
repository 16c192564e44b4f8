use Rattle.crawl_core.proofs.QueueHistory.{takes_in_order, accepts_once, leaves_in_order, fetches_one_at_a_time}
use Rattle.crawl_core.proofs.RunLaws.{takes_once, takes_where_admitted}
use Rattle.crawl_core.proofs.laws.taken_once_in_order.Goals as goal

pub returns-clause-in_order : goal.returns-clause-in_order
returns-clause-in_order c = takes_in_order

pub returns-clause-once : goal.returns-clause-once
returns-clause-once c = accepts_once

pub returns-clause-numbered : goal.returns-clause-numbered
returns-clause-numbered c = leaves_in_order

pub returns-clause-one_at_a_time : goal.returns-clause-one_at_a_time
returns-clause-one_at_a_time c = fetches_one_at_a_time

pub returns-clause-taken_once : goal.returns-clause-taken_once
returns-clause-taken_once c = takes_once

pub returns-clause-where_admitted : goal.returns-clause-where_admitted
returns-clause-where_admitted c = takes_where_admitted
