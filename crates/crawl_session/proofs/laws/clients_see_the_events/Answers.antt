use Rattle.crawl_session.proofs.Sees.{sees_done}
use Rattle.crawl_session.proofs.laws.clients_see_the_events.Goals as goal

pub returns-clause-done : goal.returns-clause-done
returns-clause-done c = sees_done
