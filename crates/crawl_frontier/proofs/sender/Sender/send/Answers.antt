use Rattle.std.proofs.Common.{arith}
use Rattle.crawl_gate.proofs.Knowing.{knows_closed-last}
use Rattle.crawl_frontier.proofs.sender.Sender.send.Goals as goal

pub returns-in-Closed-clause-words : goal.returns-in-Closed-clause-words
returns-in-Closed-clause-words g c = grind (arith, knows_closed-last)

pub returns-in-Closed-clause-for_good : goal.returns-in-Closed-clause-for_good
returns-in-Closed-clause-for_good g c = grind (arith, knows_closed-last)
