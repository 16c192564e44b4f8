use Rattle.std.proofs.Common.{rules}
use Rattle.crawl_gate.proofs.Keeping.{gives_back}
use Rattle.crawl_gate.proofs.gate.Gate.leave.Goals as goal

pub fetch_sub-count-requires : goal.fetch_sub-count-requires
fetch_sub-count-requires c = (search rules, search rules, gives_back _ _ _ _ (search rules))
