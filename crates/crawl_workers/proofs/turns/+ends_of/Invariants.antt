use Rattle.std.proofs.Common.{length}
use Rattle.crawl_workers.proofs.turns.+ends_of.Given as goal

abbrev pub decreases-ends_of : goal.decreases-ends_of
decreases-ends_of g l = length l.runners.items
