use Rattle.std.proofs.Common.{arith}
use Rattle.crawl_frontier.proofs.Lines.{fresh-snoc}
use Rattle.crawl_frontier.proofs.new_frontier.workers.Goals as goal

pub loop-right-preserved : goal.loop-right-preserved
loop-right-preserved g c = grind (arith, fresh-snoc)
