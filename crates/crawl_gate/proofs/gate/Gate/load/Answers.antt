use Rattle.std.proofs.Common.{rules}
use Rattle.crawl_gate.proofs.Keeping.{looks}
use Rattle.crawl_gate.proofs.gate.Gate.load.Goals as goal

pub load-requires : goal.load-requires
load-requires c = (search rules, search rules, looks _ _ _ _)
