use Rattle.crawl_session.proofs.Lines.{answers-append, state_after-append, history_of-append}
use Rattle.crawl_session.proofs.laws.sessions_go_on.Goals as goal

pub returns-clause-answers : goal.returns-clause-answers
returns-clause-answers c = answers-append

pub returns-clause-state : goal.returns-clause-state
returns-clause-state c = state_after-append

pub returns-clause-events : goal.returns-clause-events
returns-clause-events c = history_of-append
