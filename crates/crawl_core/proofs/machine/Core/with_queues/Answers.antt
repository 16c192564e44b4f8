use Rattle.crawl_core.proofs.Simulation.{shows_start}
use Rattle.crawl_core.proofs.machine.Core.with_queues.Goals as goal

pub returns-clause-start : goal.returns-clause-start
returns-clause-start c = rw (c.in_ok-new.ensures, c.new-2.ensures.empty, c.new-3.ensures.empty) (shows_start c.args.queues c.args.max)
