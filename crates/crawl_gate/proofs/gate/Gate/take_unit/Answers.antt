use Rattle.std.proofs.Common.{rules}
use Rattle.crawl_gate.proofs.Keeping.{takes_unit}
use Rattle.crawl_gate.proofs.gate.Gate.take_unit.Goals as goal

pub compare_exchange-found-requires : goal.compare_exchange-found-requires
compare_exchange-found-requires c = (search rules, search rules, takes_unit _ _ _ _ _ (search rules) (search rules))
