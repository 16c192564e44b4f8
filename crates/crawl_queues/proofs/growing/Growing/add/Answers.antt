use Rattle.std.proofs.Common.{rules}
use Rattle.crawl_queues.proofs.Moves.{adds}
use Rattle.crawl_queues.proofs.growing.Growing.add.Goals as goal

pub load-requires : goal.load-requires
load-requires g c = (search rules, search rules, adds _ _ _ _ c.owner.invariant.0)
