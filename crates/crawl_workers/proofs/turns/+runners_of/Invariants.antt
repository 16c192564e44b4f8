use Rattle.std.proofs.Common.{length}
use Rattle.crawl_workers.proofs.turns.+runners_of.Given as goal

abbrev pub decreases-runners_of : goal.decreases-runners_of
decreases-runners_of g l = length l.workers.items
