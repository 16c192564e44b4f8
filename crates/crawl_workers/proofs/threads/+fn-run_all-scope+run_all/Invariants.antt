use Rattle.std.proofs.Common.{length, ◌+◌, ◌*◌}
use Rattle.crawl_workers.proofs.threads.+fn-run_all-scope+run_all.Given as goal

abbrev pub decreases-scope : goal.decreases-scope
decreases-scope g l = 2 * length l.workers.items + 1

abbrev pub decreases-run_all : goal.decreases-run_all
decreases-run_all g l = 2 * length l.workers.items
