use Rattle.crawl_certificate.proofs.Prelude.{ap, arith, take_all, entries_in}
use Rattle.crawl_certificate.proofs.KeptRules.{kept_queues}
use Rattle.crawl_certificate.proofs.Queues.{queues_differ, queue_counts}
use Rattle.crawl_certificate.proofs.laws.queues_are_counted.Goals as goal

pub returns-clause-apart : goal.returns-clause-apart
returns-clause-apart c = queues_differ

pub returns-clause-counts : goal.returns-clause-counts
returns-clause-counts c = queue_counts

pub returns-clause-accounts : goal.returns-clause-accounts
returns-clause-accounts c = λ account keeps. kept_queues account.workers account.queues keeps

pub returns-clause-whole : goal.returns-clause-whole
returns-clause-whole c = λ account same. ap entries_in (take_all account.workers account.queues (omega (arith, same)))
