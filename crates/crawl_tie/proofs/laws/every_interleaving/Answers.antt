use Rattle.crawl_tie.proofs.Closing.{at_closing, all_delivered}
use Rattle.crawl_tie.proofs.laws.every_interleaving.Goals as goal

pub returns-clause-delivers : goal.returns-clause-delivers
returns-clause-delivers c = all_delivered

pub returns-clause-closed : goal.returns-clause-closed
returns-clause-closed c = at_closing
