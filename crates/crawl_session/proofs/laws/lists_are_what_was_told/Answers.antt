use Rattle.crawl_session.proofs.Listed.{lists_answered}
use Rattle.crawl_session.proofs.laws.lists_are_what_was_told.Goals as goal

pub returns : goal.returns
returns c = lists_answered
